-- A log of rule 184 under the density that counts letters: a ring opened on 1100, stepped, read and touched, and then a ring of one cell, with refused calls between. Assumes nothing.
use Rattle.std.specs.Prelude.{◌≡◌, ℕ, List, [], ◌∷◌, ◌++◌, map, Ok}
use Rattle.fault.specs.declared.Stop.TheVariants.{BadLength, ShortStrip, BadPosition, BadLetter}
use Rattle.fault.specs.Refusals.{refused_at}
use Rattle.charge.specs.Kinds.{voices}
use Rattle.automaton.specs.Meanings.{Lawful, Weighed}
use Rattle.bench.specs.Laws.{KeepsTotal}
use Rattle.bench.specs.Verdicts.{bench_checked}
use Rattle.player.specs.Calls.{PlayerCall, PlayerAnswer, PlayerStrips}
use Rattle.player.specs.Calls.PlayerCall.{opens, touches, steps, reads, closes}
use Rattle.player.specs.Calls.PlayerAnswer.{done, reading, refused}
use Rattle.player.specs.Promises.{all_strips, touch_strips}
use Rattle.player.specs.Logs.{LogLine, Log, OnEveryLine, WithoutGaps, LineTrue}
use Rattle.player.specs.Logs.Log.{made, ◌then◌}
use Rattle.cases.specs.Examples.{Count, count, elementary, letter_count, counting}

-- all strips, with the meters by their counts
abbrev pub counted_strips : List ℕ → List ℕ → List ℕ → List ℕ → List ℕ → PlayerStrips Count
counted_strips cells spare opening crossed touched =
    all_strips cells spare (map count opening) (map count crossed) (map count touched)

-- strips as long as the ring or longer; what stands past the ring stays
abbrev pub blank : PlayerStrips Count
blank =
    counted_strips
    (9 ∷ 9 ∷ 9 ∷ 9 ∷ 7 ∷ []) (9 ∷ 9 ∷ 9 ∷ 9 ∷ 6 ∷ [])
    (5 ∷ 5 ∷ 5 ∷ 5 ∷ 4 ∷ []) (5 ∷ 5 ∷ 5 ∷ 5 ∷ []) (5 ∷ 5 ∷ 5 ∷ 5 ∷ 3 ∷ [])

abbrev pub after_open : PlayerStrips Count
after_open =
    counted_strips
    (1 ∷ 1 ∷ 0 ∷ 0 ∷ 7 ∷ []) (9 ∷ 9 ∷ 9 ∷ 9 ∷ 6 ∷ [])
    (1 ∷ 1 ∷ 0 ∷ 0 ∷ 4 ∷ []) (0 ∷ 0 ∷ 0 ∷ 0 ∷ []) (0 ∷ 0 ∷ 0 ∷ 0 ∷ 3 ∷ [])

-- by the ring that the step makes
abbrev pub after_step : List ℕ → PlayerStrips Count
after_step ring =
    counted_strips
    (ring ++ (7 ∷ [])) (1 ∷ 1 ∷ 0 ∷ 0 ∷ 6 ∷ [])
    (1 ∷ 1 ∷ 0 ∷ 0 ∷ 4 ∷ []) (0 ∷ 0 ∷ 1 ∷ 0 ∷ []) (0 ∷ 0 ∷ 0 ∷ 0 ∷ 3 ∷ [])

abbrev pub after_touch : PlayerStrips Count
after_touch =
    counted_strips
    (1 ∷ 1 ∷ 1 ∷ 0 ∷ 7 ∷ []) (1 ∷ 1 ∷ 0 ∷ 0 ∷ 6 ∷ [])
    (1 ∷ 1 ∷ 0 ∷ 0 ∷ 4 ∷ []) (0 ∷ 0 ∷ 1 ∷ 0 ∷ []) (0 ∷ 1 ∷ 0 ∷ 0 ∷ 3 ∷ [])

-- a ring of one cell
abbrev pub after_open_one : PlayerStrips Count
after_open_one =
    counted_strips
    (1 ∷ 9 ∷ 9 ∷ 9 ∷ 7 ∷ []) (9 ∷ 9 ∷ 9 ∷ 9 ∷ 6 ∷ [])
    (1 ∷ 5 ∷ 5 ∷ 5 ∷ 4 ∷ []) (0 ∷ 5 ∷ 5 ∷ 5 ∷ []) (0 ∷ 5 ∷ 5 ∷ 5 ∷ 3 ∷ [])

abbrev pub after_step_one : PlayerStrips Count
after_step_one =
    counted_strips
    (1 ∷ 9 ∷ 9 ∷ 9 ∷ 7 ∷ []) (1 ∷ 9 ∷ 9 ∷ 9 ∷ 6 ∷ [])
    (1 ∷ 5 ∷ 5 ∷ 5 ∷ 4 ∷ []) (0 ∷ 5 ∷ 5 ∷ 5 ∷ []) (0 ∷ 5 ∷ 5 ∷ 5 ∷ 3 ∷ [])

-- the strips that a touch looks at, and no others
abbrev pub touch_only : List ℕ → List ℕ → PlayerStrips Count
touch_only cells touched = touch_strips cells (map count touched)

abbrev pub line : PlayerCall → PlayerStrips Count → PlayerAnswer Count → PlayerStrips Count → LogLine Count
line call handed said left = record { call = call; handed = handed; got = record { said = said; left = left } }

-- a site's opening, crossed and touched counts and its count now
abbrev pub counts : ℕ → ℕ → ℕ → ℕ → PlayerAnswer Count
counts o c t n = reading (count o) (count c) (count t) (count n)

-- The log of a session, by the ring that its step makes and what is read: at sites 1 and 2 after the step, and at
-- site 1 after the touch.
abbrev pub session : List ℕ → PlayerAnswer Count → PlayerAnswer Count → PlayerAnswer Count → Log Count
session ring read_1 read_2 read_touched =
    made
    then line (opens (1 ∷ 2 ∷ 0 ∷ 0 ∷ [])) blank (refused (refused_at BadLetter 1)) blank
    then line (opens []) blank (refused (refused_at BadLength 0)) blank
    then line (opens (1 ∷ 1 ∷ 0 ∷ 0 ∷ [])) blank done after_open
    then line steps after_open done (after_step ring)
    then line (reads 1) (after_step ring) read_1 (after_step ring)
    then line (reads 2) (after_step ring) read_2 (after_step ring)
    then line (reads 4) (after_step ring) (refused (refused_at BadPosition 0)) (after_step ring)
    then line (touches 1 2) (after_step ring) (refused (refused_at BadLetter 4)) (after_step ring)
    then line (touches 1 1) (touch_only (1 ∷ 2 ∷ []) []) (refused (refused_at ShortStrip 0)) (touch_only (1 ∷ 2 ∷ []) [])
    then line (touches 1 1) (touch_only (1 ∷ 0 ∷ 1 ∷ 0 ∷ []) (0 ∷ 0 ∷ 0 ∷ 0 ∷ [])) done (touch_only (1 ∷ 1 ∷ 1 ∷ 0 ∷ []) (0 ∷ 1 ∷ 0 ∷ 0 ∷ []))
    then line (reads 1) after_touch read_touched after_touch
    then line closes blank done blank
    then line (opens (1 ∷ [])) blank done after_open_one
    then line steps after_open_one done after_step_one
    then line (reads 0) after_step_one (counts 1 0 0 1) after_step_one

-- Rule 184 and the density that counts letters make a bench that holds, a log of it has no gaps, and so each of its
-- lines is true.
pub record WorkedLog (log : Log Count) : Type 0 where
  pub lawful : Lawful (elementary 184)
  pub weighed : Weighed letter_count
  pub bench : bench_checked (counting (elementary 184)) ≡ Ok tt
  pub keeps : KeepsTotal voices.group (elementary 184) letter_count
  pub no_gaps : WithoutGaps voices (elementary 184) letter_count log
  pub lines : OnEveryLine (LineTrue voices (elementary 184) letter_count) log
