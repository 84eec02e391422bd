-- What is known of a bench once it is judged, by what is found. Assumes nothing.
use Rattle.std.proofs.Common.{◌≡◌, ℕ, List, Some, None, Ok, Err, Option, Result, arith}
use Rattle.std.proofs.Math.Bool.{Bool-set}
use Rattle.std.proofs.Math.Logic.{∥∥₁_elim}
use Rattle.std.specs.Option.{option_map}
use Rattle.fault.specs.Answers.{and_then}
use Rattle.fault.specs.Refusals.{Refusal}
use Rattle.charge.specs.Groups.{Kind}
use Rattle.automaton.specs.Meanings.{Local, Weights, next, total}
use Rattle.bench.specs.declared.state.Break.{Break}
use Rattle.bench.specs.Answers.{breaks_mean}
use Rattle.bench.specs.Benches.{Bench}
use Rattle.bench.specs.Laws.{KeepsTotal, NoneChanges, VerdictRight, KnownBy}
use Rattle.bench.specs.Verdicts.{Broken, Found}

-- an answer that means what is found tells that no ring changes its total, or that some ring does
pub known_by : {C : Type 0} {K : Kind C} (b : Bench K) (told : ℕ × List ℕ → Broken K.group.Carrier) (x : Option (Break C)) (found : Found) → VerdictRight b found →
    ◌≡◌ {A = Result (Option (Broken K.group.Carrier)) Refusal} (Ok (breaks_mean K x)) (and_then found (λ f. Ok (option_map told f))) → KnownBy b x
known_by b told None (Ok None) right is = ∣ right.0 ∣₁
known_by b told (Some x) (Ok (Some f)) right is = ∣ (f.1, right) ∣₁
known_by b told None (Ok (Some f)) right is = absurd (grind arith)
known_by b told (Some x) (Ok None) right is = absurd (grind arith)
known_by b told None (Err f) right is = absurd (grind arith)
known_by b told (Some x) (Err f) right is = absurd (grind arith)

-- what a holding bench says in its type, ring by ring: the charges of a kind are told apart
pub keeps_total : {C : Type 0} (K : Kind C) (r : Local) (d : Weights K.group.Carrier) → NoneChanges K.group r d → KeepsTotal K.group r d
keeps_total K r d none c long below =
    let same = K.decides (total K.group d (next r c)) (total K.group d c) in
    same.0 (∥∥₁_elim none (Bool-set _ _) (λ keeps. same.1 (keeps c long below)))
