-- The log of rule 184 has no gaps. Assumes nothing.
use Rattle.std.proofs.Common.{[], ◌∷◌, arith, refl}
use Rattle.charge.specs.Kinds.{voices}
use Rattle.automaton.specs.Meanings.{Lawful, Weighed}
use Rattle.automaton.proofs.Passes.{ring-letters}
use Rattle.bench.specs.Laws.{KeepsTotal}
use Rattle.bench.proofs.Rights.{verdict_right}
use Rattle.player.specs.Logs.{WithoutGaps}
use Rattle.player.proofs.Logs.{logs_true}
use Rattle.player.specs.Logs.{Log}
use Rattle.cases.specs.Examples.{Count, elementary, letter_count, counting}
use Rattle.cases.specs.WorkedLog.{session, counts, WorkedLog}

lawful_184 : Lawful (elementary 184)
lawful_184 = record { sizes = grind arith; each = refl; letters = ring-letters 2 (elementary 184).answers refl }

letters_weighed : Weighed letter_count
letters_weighed = record { sizes = grind arith; each = refl }

-- the verdict on strips that are just long enough is that no word fails
keeps_184 : KeepsTotal voices.group (elementary 184) letter_count
keeps_184 = (verdict_right voices 4 5 (counting (elementary 184)) lawful_184 letters_weighed).0

-- the lines of a log, one after another
infixl 4 ◌also◌
abbrev ◌also◌ : {A B : Type 0} → A → B → A × B
x also y = (x, y)

abbrev log_184 : Log Count
log_184 = session (1 ∷ 0 ∷ 1 ∷ 0 ∷ []) (counts 1 0 0 0) (counts 0 1 0 1) (counts 1 0 1 1)

no_gaps_184 : WithoutGaps voices (elementary 184) letter_count log_184
no_gaps_184 =
    tt
    also record { order = refl; promise = refl; no_gap = λ x. absurd x }
    also record { order = refl; promise = refl; no_gap = λ x. absurd x }
    also record { order = refl; promise = refl; no_gap = λ x. tt }
    also record { order = refl; promise = refl; no_gap = λ x. refl }
    also record { order = refl; promise = refl; no_gap = λ x. refl }
    also record { order = refl; promise = refl; no_gap = λ x. refl }
    also record { order = refl; promise = refl; no_gap = λ x. absurd x }
    also record { order = refl; promise = refl; no_gap = λ x. absurd x }
    also record { order = refl; promise = refl; no_gap = λ x. absurd x }
    also record { order = refl; promise = refl; no_gap = λ x. refl }
    also record { order = refl; promise = refl; no_gap = λ x. refl }
    also record { order = refl; promise = refl; no_gap = λ x. tt }
    also record { order = refl; promise = refl; no_gap = λ x. tt }
    also record { order = refl; promise = refl; no_gap = λ x. refl }
    also record { order = refl; promise = refl; no_gap = λ x. refl }

pub worked_log : WorkedLog log_184
worked_log = record {
  lawful = lawful_184;
  weighed = letters_weighed;
  bench = refl;
  keeps = keeps_184;
  no_gaps = no_gaps_184;
  lines = logs_true voices (elementary 184) letter_count lawful_184 letters_weighed refl keeps_184 log_184 no_gaps_184;
}
