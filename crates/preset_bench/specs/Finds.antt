-- What judging a preset finds. Assumes nothing.
use Rattle.std.specs.Prelude.{◌≡◌, ℕ, ◌^◌, List, Some, None, Ok, Err, Option, Result}
use Rattle.std.specs.Option.{option_map}
use Rattle.fault.specs.declared.Fault.{Fault}
use Rattle.fault.specs.Answers.{and_then, at_front}
use Rattle.fault.specs.Refusals.{Refusal}
use Rattle.charge.specs.Groups.{Kind}
use Rattle.automaton.specs.Making.{table_rule, table_density, rule_making, table_making, passes}
use Rattle.automaton.specs.Meanings.{Local, Weights}
use Rattle.criterion.specs.Answers.{ring_written, unless_refused}
use Rattle.criterion.specs.Search.{padding, crossings}
use Rattle.criterion.specs.ChargeStrips.{FrontMeans}
use Rattle.criterion.specs.Labelled.{LabelList}
use Rattle.preset.specs.declared.entry.Entry.{Entry}
use Rattle.preset.specs.declared.header.Header.{Header}
use Rattle.preset.specs.Sending.{Sending}
use Rattle.bench.specs.declared.state.Break.{Break}
use Rattle.bench.specs.Answers.{found_said}
use Rattle.bench.specs.Benches.{Bench, bench_of, label_of, total_before, total_after}
use Rattle.bench.specs.Laws.{VerdictRight}
use Rattle.bench.specs.Verdicts.{broken, bench_checked, Found, Lent, judge_found}

-- An answer that means what was found, with the two totals of the ring shown, and what is right of all rings.
pub record FoundIs {C : Type 0} (K : Kind C) (first second : List ℕ → K.group.Carrier) (Right : Result (Option (ℕ × List ℕ)) Refusal → Type 0)
    (found : Result (Option (ℕ × List ℕ)) Refusal) (answer : Result (Option (Break C)) Fault) : Type 0 where
  pub said : found_said K answer ≡ and_then found (λ f. Ok (option_map (broken first second) f))
  pub right : Right found

-- What was found for a label on two strips: the answer, the crossings and the ring.
pub record Finds {C : Type 0} (K : Kind C) (label : LabelList K.group.Carrier) (first second : List ℕ → K.group.Carrier) (Right : Result (Option (ℕ × List ℕ)) Refusal → Type 0)
    (found : Result (Option (ℕ × List ℕ)) Refusal) (old new : List C) (strip ring : List ℕ) (answer : Result (Option (Break C)) Fault) : Type 0 where
  pub is : FoundIs K first second Right found answer
  pub crossed : FrontMeans K (unless_refused found (crossings K padding label)) old new
  pub shown : ring ≡ at_front (ring_written found) strip

-- for a rule under a density
abbrev pub JudgeFinds : {C : Type 0} {K : Kind C} → Bench K → Found → Lent C → Lent C → Result (Option (Break C)) Fault → Type 0
JudgeFinds {C} {K} b found old new = Finds K (label_of b) (total_before b) (total_after b) (VerdictRight b) found old.crossings new.crossings old.ring new.ring

-- the rule of a preset, and its density by charges
abbrev pub preset_rule : Header → List ℕ → Local
preset_rule h letters = table_rule h.q h.n h.l letters

abbrev pub preset_density : {C : Type 0} → (K : Kind C) → Header → List C → Weights K.group.Carrier
preset_density K h charges = table_density K h.q h.k charges

-- the bench of a preset, by charges
abbrev pub preset_bench : {C : Type 0} → (K : Kind C) → Header → List ℕ → List C → Bench K
preset_bench K h letters charges = bench_of K (preset_rule h letters) (preset_density K h charges)

-- the tests that the bench of a preset passes
abbrev pub bench_checked_of : {C : Type 0} → Kind C → Header → List ℕ → List C → Result (Unit {0}) Refusal
bench_checked_of K h letters charges =
    and_then (passes (rule_making h.q h.n h.l (h.q ^ h.n) letters)) (λ _.
    and_then (passes (table_making K h.q h.k charges)) (λ _.
    bench_checked (preset_bench K h letters charges)))

-- what judging finds on strips of some lengths, once the bench is made
abbrev pub preset_found : {C : Type 0} → Kind C → Header → List ℕ → List C → ℕ → ℕ → Result (Option (ℕ × List ℕ)) Refusal
preset_found K h letters charges crossing_room ring_room =
    and_then (bench_checked_of K h letters charges) (λ _. judge_found (preset_bench K h letters charges) crossing_room ring_room)

-- a break with its totals as entries, and what was found likewise
abbrev pub sent_break : {C : Type 0} → Sending C → Break C → Break Entry
sent_break S b = record { word = b.word; len = b.len; first = S.entry b.first; second = S.entry b.second }

abbrev pub sent_found : {C : Type 0} → Sending C → Result (Option (Break C)) Fault → Result (Option (Break Entry)) Fault
sent_found S (Ok None) = Ok None
sent_found S (Ok (Some b)) = Ok (Some (sent_break S b))
sent_found S (Err f) = Err f
