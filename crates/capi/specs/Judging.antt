-- What judging a preset answers and writes. Assumes nothing.
use Rattle.std.specs.Prelude.{◌≡◌, ℕ, List, map, length, Ok, Err, Option, Result}
use Rattle.fault.specs.declared.Fault.{Fault}
use Rattle.fault.specs.Answers.{plainly, at_front}
use Rattle.fault.specs.Refusals.{Refusal}
use Rattle.charge.specs.Groups.{Kind}
use Rattle.charge.specs.declared.kind.ChargeKind.{ChargeKind}
use Rattle.automaton.specs.Meanings.{Local, Weights, next, total}
use Rattle.criterion.specs.Answers.{ring_written, unless_refused}
use Rattle.criterion.specs.Search.{padding, crossings}
use Rattle.preset.specs.Presets.{Preset}
use Rattle.preset.specs.Sending.{Sending, delivered}
use Rattle.preset.specs.declared.entry.Entry.{Entry}
use Rattle.bench.specs.declared.state.Break.{Break}
use Rattle.bench.specs.Benches.{bench_of}
use Rattle.bench.specs.Labels.{rule_label_list}
use Rattle.bench.specs.Laws.{VerdictRight}
use Rattle.preset_bench.specs.Finds.{FoundIs, preset_rule, preset_density, preset_found, sent_found}
use Rattle.capi.specs.declared.answers.JudgeAnswer.{JudgeAnswer}
use Rattle.capi.specs.Answers.{judge_answer}

-- a verdict of a rule under a density
abbrev pub VerdictIs : {C : Type 0} (K : Kind C) → Local → Weights K.group.Carrier → Result (Option (ℕ × List ℕ)) Refusal → Result (Option (Break C)) Fault → Type 0
VerdictIs K r d = FoundIs K (total K.group d) (λ c. total K.group d (next r c)) (VerdictRight (bench_of K r d))

-- what C is told of a verdict
abbrev pub told_of : {C : Type 0} → Sending C → Result (Option (Break C)) Fault → JudgeAnswer
told_of S verdict = judge_answer (plainly (sent_found S verdict))

-- A preset of one kind, judged on a strip for crossings and one for a ring: some charges that are sent as its entries are
-- judged, and entries of charges that mean the crossings stand at the front of the first strip.
module _ {C : Type 0} (K : Kind C) (S : Sending C) (p : Preset) (old new : List Entry) (strip ring : List ℕ) where
  abbrev pub found_on : List C → Result (Option (ℕ × List ℕ)) Refusal
  found_on charges = preset_found K p.head.header p.letters charges (length old) (length strip)

  pub record JudgedOn (answer : JudgeAnswer) : Type 0 where
    pub charges : List C
    pub sent : map S.entry charges ≡ p.entries
    pub verdict : Result (Option (Break C)) Fault
    pub verdict_is : VerdictIs K (preset_rule p.head.header p.letters) (preset_density K p.head.header charges) (found_on charges) verdict
    pub told : answer ≡ told_of S verdict
    pub crossed : List C
    pub meant : map K.means crossed ≡ unless_refused (found_on charges) (crossings K padding (rule_label_list K.group (preset_rule p.head.header p.letters) (preset_density K p.head.header charges)))
    pub written : new ≡ at_front (map S.entry crossed) old
    pub shown : ring ≡ at_front (ring_written (found_on charges)) strip

-- of any kind
abbrev pub JudgedAs : ChargeKind → Preset → List Entry → List Entry → List ℕ → List ℕ → JudgeAnswer → Type 0
JudgedAs kind = JudgedOn (delivered kind).meaning (delivered kind).sending

-- of some bytes, by what reading them as a preset answers; a refusal writes nothing
abbrev pub JudgeTells : Result Preset Refusal → List Entry → List Entry → List ℕ → List ℕ → JudgeAnswer → Type 0
JudgeTells (Ok p) = JudgedAs p.head.kind p
JudgeTells (Err f) = λ old new strip ring answer. (answer ≡ judge_answer (Err f)) × (new ≡ old) × (ring ≡ strip)
