-- What performing a script on a drafted bench promises. Assumes nothing.
use Rattle.std.specs.Prelude.{◌≡◌, ℕ, MatchBool, ◌+◌, ◌-◌, ◌*◌, List, ◌∷◌, [], map, length, take, drop, Ok, Err, Option, Result, nat_le, slice_index_or}
use Rattle.fault.specs.declared.Stop.TheVariants.{ShortStrip}
use Rattle.fault.specs.Answers.{and_then}
use Rattle.fault.specs.Checks.{tested}
use Rattle.fault.specs.Refusals.{Refusal, refused_at}
use Rattle.charge.specs.Groups.{Kind}
use Rattle.automaton.specs.Words.{code}
use Rattle.criterion.specs.Balance.{OnlyTable}
use Rattle.criterion.specs.Search.{padding}
use Rattle.bench.specs.declared.state.Verdict.{Verdict}
use Rattle.bench.specs.declared.state.Verdict.TheVariants.{Holds, Breaks}
use Rattle.bench.specs.declared.state.Refused.{Refused}
use Rattle.bench.specs.Labels.{rule_label}
use Rattle.bench.specs.Answers.{judge_said}
use Rattle.bench.specs.Benches.{Bench, total_before, total_after}
use Rattle.bench.specs.Promises.{Judges}
use Rattle.bench.specs.Laws.{KeepsTotal, Apart}
use Rattle.bench.specs.Verdicts.{Judgement, Lent}
use Rattle.bench.specs.Verdicts.Judgement.{holds, breaks}
use Rattle.player.specs.declared.player.Player.{Player}
use Rattle.player.specs.declared.call.Call.{Call}
use Rattle.player.specs.declared.call.Answer.{Answer}
use Rattle.player.specs.Answers.{call_meant, answers_to, open_cells}
use Rattle.player.specs.Calls.{PlayerCall, PlayerAnswer, PlayerStrips}
use Rattle.player.specs.Logs.{standing, longest_opened, OnEveryLine, WithoutGaps, LineTrue}
use Rattle.player.specs.Obeying.{played_on, front_of_all, StaysPast}
use Rattle.player.specs.Promises.{meant}
use Rattle.player.specs.Scripts.{played}

-- a script of n calls needs room for n answers, and then what comes next
abbrev pub with_answers : {X : Type 0} → ℕ → ℕ → Result X Refusal → Result X Refusal
with_answers n room x = and_then (tested ((nat_le n room, ShortStrip) ∷ [])) (λ _. x)

-- Judging, where there is room for the answers to a script of n calls; else the call is refused, and leaves both strips.
abbrev pub JudgedFor : {C H B S : Type 0} {K : Kind C} → ℕ → ℕ → Bench K → Lent C → Result (Verdict C H B) (Refused S) → Lent C → Type 0
JudgedFor {C} {H} {B} {S} {K} n room b old result new =
    MatchBool (nat_le n room) (Judges b old result new) ((judge_said K result ≡ Err (refused_at ShortStrip 0)) × (new ≡ old))

module _ {C : Type 0} {K : Kind C} (b : Bench K) where
  -- Under "holds" no ring of any length changes its total in a step; otherwise the ring shown changes its total, and has
  -- at most 2 (n + k) - 3 cells. So the answer is "holds" exactly when no ring changes its total.
  abbrev pub VerdictTrue : Result (Judgement K.group.Carrier) Refusal → List ℕ → Type 0
  VerdictTrue (Ok holds) ring = KeepsTotal K.group b.rule b.density
  VerdictTrue (Ok (breaks f)) ring = Apart b.rule.q (2 * (b.rule.n + b.density.k) - 3) (total_after b) (total_before b) (take f.len ring)
  VerdictTrue (Err f) ring = Unit {0}

  -- under "holds" the strip of crossings, read by codes, balances every word and is zero on the word of zeros, and every
  -- table that does both equals it at each word
  abbrev pub CrossingsTrue : Result (Judgement K.group.Carrier) Refusal → List K.group.Carrier → Type 0
  CrossingsTrue (Ok holds) strip =
      OnlyTable K.group (rule_label K.group b.rule b.density) padding b.rule.q (b.rule.n + b.density.k - 1) (λ v. slice_index_or strip (code b.rule.q v) K.group.zero)
  CrossingsTrue (Ok (breaks f)) strip = Unit {0}
  CrossingsTrue (Err f) strip = Unit {0}

  -- under "holds" the strips, the answers and how many cells the open ring has are those of the script's log
  abbrev pub Plays : Result (Judgement K.group.Carrier) Refusal → List PlayerCall → PlayerStrips K.group.Carrier → PlayerStrips K.group.Carrier →
      List (Option (PlayerAnswer K.group.Carrier)) → ℕ → Type 0
  Plays (Ok holds) script handed left said cells =
      let p = played K b.rule b.density handed script in (left ≡ p.strips) × (said ≡ p.said) × (cells ≡ length (standing p.log).cells)
  Plays (Ok (breaks f)) script handed left said cells = Unit {0}
  Plays (Err f) script handed left said cells = Unit {0}

  -- and that log has no gaps and is true on every line
  abbrev pub LogTrue : Result (Judgement K.group.Carrier) Refusal → List PlayerCall → PlayerStrips K.group.Carrier → Type 0
  LogTrue (Ok holds) script handed =
      let log = (played K b.rule b.density handed script).log in WithoutGaps K b.rule b.density log × OnEveryLine (LineTrue K b.rule b.density) log
  LogTrue (Ok (breaks f)) script handed = Unit {0}
  LogTrue (Err f) script handed = Unit {0}

-- how many cells the ring has that is open on a bench that holds
abbrev pub cells_open : {C H P B E : Type 0} → (P → ℕ) → Result (Verdict C (Player H P) B) E → ℕ
cells_open cells (Ok (Holds p)) = open_cells cells p
cells_open cells (Ok (Breaks b found)) = 0
cells_open cells (Err e) = 0

-- what is so unless a bench holds
abbrev pub UnlessHolds : {A : Type 0} → Result (Judgement A) Refusal → Type 0 → Type 0
UnlessHolds (Ok holds) P = Unit {0}
UnlessHolds (Ok (breaks f)) P = P
UnlessHolds (Err f) P = P

-- What performing a script leaves, by what was judged of the bench: the strips and the answers, each before and after, and
-- how many cells the ring has that is open then.
pub record Performs {C : Type 0} {K : Kind C} (b : Bench K) (judged : Result (Judgement K.group.Carrier) Refusal) (script : List Call) (old new : PlayerStrips C)
    (before after : List (Option (Answer C))) (cells : ℕ) : Type 0 where
  pub played : Plays b judged (map call_meant script) (meant K old) (meant K new) (answers_to K script after) cells
  -- the answers past those to the script stay
  pub past : drop (length script) after ≡ drop (length script) before
  -- and so do the charges past the longest ring that the script opened
  pub charges : StaysPast (front_of_all (longest_opened (played_on b old (map call_meant script)).log)) old new
  pub unplayed : UnlessHolds judged ((new ≡ old) × (after ≡ before))
