-- What comparing the densities of two presets finds. Assumes nothing.
use Rattle.std.specs.Prelude.{ℕ, Bool, true, false, List, Some, None, Option, Result}
use Rattle.fault.specs.declared.Fault.{Fault}
use Rattle.fault.specs.Answers.{and_then}
use Rattle.charge.specs.Groups.{Kind}
use Rattle.automaton.specs.Making.{table_making, passes}
use Rattle.automaton.specs.Meanings.{Weights, total}
use Rattle.preset.specs.declared.header.Header.{Header}
use Rattle.bench.specs.declared.state.Break.{Break}
use Rattle.bench.specs.Labels.{two_label_list}
use Rattle.bench.specs.Laws.{ComparisonRight}
use Rattle.bench.specs.Verdicts.{Found, Lent, compare_found}
use Rattle.preset_bench.specs.Finds.{Finds, preset_density}

-- what was found for two densities
abbrev pub CompareFinds : {C : Type 0} (K : Kind C) → Weights K.group.Carrier → Weights K.group.Carrier → Found → Lent C → Lent C → Result (Option (Break C)) Fault → Type 0
CompareFinds K d e found old new = Finds K (two_label_list K.group d e) (total K.group d) (total K.group e) (ComparisonRight K d e) found old.crossings new.crossings old.ring new.ring

-- what comparing finds on strips of some lengths, once the two densities are made
abbrev pub pair_found : {C : Type 0} → Kind C → Header → List C → Header → List C → ℕ → ℕ → Found
pair_found K h charges h' charges' crossing_room ring_room =
    and_then (passes (table_making K h.q h.k charges)) (λ _.
    and_then (passes (table_making K h'.q h'.k charges')) (λ _.
    compare_found K (preset_density K h charges) (preset_density K h' charges') crossing_room ring_room))

-- no word failed
abbrev pub answer_good : {C : Type 0} → Option (Break C) → Bool
answer_good None = true
answer_good (Some b) = false
