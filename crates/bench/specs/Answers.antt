-- What the bench's calls answer, by what it means. Assumes nothing.
use Rattle.std.specs.Option.{option_map}
use Rattle.std.specs.Prelude.{Some, None, Ok, Err, Option, Result}
use Rattle.fault.specs.declared.Fault.{Fault}
use Rattle.fault.specs.Refusals.{Refusal, refusal}
use Rattle.charge.specs.Groups.{Kind}
use Rattle.bench.specs.declared.state.Break.{Break}
use Rattle.bench.specs.declared.state.Comparison.{Comparison}
use Rattle.bench.specs.declared.state.Comparison.TheVariants.{Agree, Differ}
use Rattle.bench.specs.declared.state.Refused.{Refused}
use Rattle.bench.specs.declared.state.Verdict.{Verdict}
use Rattle.bench.specs.declared.state.Verdict.TheVariants.{Holds, Breaks}
use Rattle.bench.specs.Verdicts.{Broken, Judgement, holds, breaks, Agreement, agree, differ}

-- what a break means
abbrev pub break_means : {C : Type 0} → (K : Kind C) → Break C → Broken K.group.Carrier
break_means K b = record { word = b.word; len = b.len; first = K.means b.first; second = K.means b.second }

abbrev pub breaks_mean : {C : Type 0} → (K : Kind C) → Option (Break C) → Option (Broken K.group.Carrier)
breaks_mean K found = option_map (break_means K) found

-- a verdict and a comparison by what they mean
abbrev pub verdict_means : {C H B : Type 0} → (K : Kind C) → Verdict C H B → Judgement K.group.Carrier
verdict_means K (Holds h) = holds
verdict_means K (Breaks b found) = breaks (break_means K found)

abbrev pub comparison_means : {C : Type 0} → (K : Kind C) → Comparison C → Agreement K.group.Carrier
comparison_means K Agree = agree
comparison_means K (Differ b) = differ (break_means K b)

-- the difference that a comparison tells of, if it tells of one
abbrev pub difference_of : {C : Type 0} → Comparison C → Option (Break C)
difference_of Agree = None
difference_of (Differ b) = Some b

-- the break that a verdict tells of, if it tells of one
abbrev pub break_of : {C H B : Type 0} → Verdict C H B → Option (Break C)
break_of (Holds h) = None
break_of (Breaks b found) = Some found

-- the answers of the calls, likewise
abbrev pub judge_said : {C H B S : Type 0} → (K : Kind C) → Result (Verdict C H B) (Refused S) → Result (Judgement K.group.Carrier) Refusal
judge_said K (Ok v) = Ok (verdict_means K v)
judge_said K (Err e) = Err (refusal e.fault)

abbrev pub compare_said : {C : Type 0} → (K : Kind C) → Result (Comparison C) Fault → Result (Agreement K.group.Carrier) Refusal
compare_said K (Ok v) = Ok (comparison_means K v)
compare_said K (Err f) = Err (refusal f)

abbrev pub broken_said : {C : Type 0} → (K : Kind C) → Result (Break C) Fault → Result (Broken K.group.Carrier) Refusal
broken_said K (Ok b) = Ok (break_means K b)
broken_said K (Err f) = Err (refusal f)

abbrev pub found_said : {C : Type 0} → (K : Kind C) → Result (Option (Break C)) Fault → Result (Option (Broken K.group.Carrier)) Refusal
found_said K (Ok found) = Ok (breaks_mean K found)
found_said K (Err f) = Err (refusal f)

abbrev pub draft_said : {X S : Type 0} → Result X (Refused S) → Result (Unit {0}) Refusal
draft_said (Ok draft) = Ok tt
draft_said (Err e) = Err (refusal e.fault)

-- the rule and the density that a verdict hands on, by those of each state
abbrev pub verdict_parts : {C H B P : Type 0} → (H → P) → (B → P) → Verdict C H B → P
verdict_parts of_holding of_breaking (Holds h) = of_holding h
verdict_parts of_holding of_breaking (Breaks b found) = of_breaking b
