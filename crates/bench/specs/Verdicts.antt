-- What judge and compare answer. Assumes nothing.
use Rattle.std.specs.Prelude.{◌≡◌, ℕ, ◌+◌, ◌-◌, ◌≤◌, max, List, [], ◌∷◌, length, Some, None, Ok, Option, Result, ◌==◌}
use Rattle.std.specs.Option.{option_map}
use Rattle.fault.specs.declared.Stop.TheVariants.{AlphabetsDiffer, TooManyWords}
use Rattle.fault.specs.Answers.{and_then, at_front}
use Rattle.fault.specs.Checks.{tested}
use Rattle.fault.specs.Limits.{few_words}
use Rattle.fault.specs.Refusals.{Refusal}
use Rattle.charge.specs.Groups.{Kind}
use Rattle.automaton.specs.Words.{Letters}
use Rattle.automaton.specs.Meanings.{Weights, total}
use Rattle.criterion.specs.Answers.{examined, unless_refused, ring_written}
use Rattle.criterion.specs.ChargeStrips.{FrontMeans}
use Rattle.criterion.specs.Search.{padding, most_shown, crossings}
use Rattle.bench.specs.Labels.{two_label_list}
use Rattle.bench.specs.Benches.{Bench, total_before, total_after, label_of, crossings_of}

-- A break: the failing word's code, the length of the ring shown, and two totals of that ring, before and after one
-- step, or under the first density and the second.
pub record Broken (A : Type 0) : Type 0 where
  pub word : ℕ
  pub len : ℕ
  pub first : A
  pub second : A

-- what judging says
pub data Judgement (A : Type 0) : Type 0 where
  holds : Judgement A
  breaks : Broken A → Judgement A

-- what comparing says
pub data Agreement (A : Type 0) : Type 0 where
  agree : Agreement A
  differ : Broken A → Agreement A

-- a ring that may be shown: of letters below q, with at least one cell and at most as many as any has that is shown
abbrev pub ShownRing : ℕ → List ℕ → Type 0
ShownRing q c = (1 ≤ length c) × (length c ≤ most_shown) × Letters q c

-- the totals of the ring that shows a failing word
abbrev pub broken : {A : Type 0} → (List ℕ → A) → (List ℕ → A) → ℕ × List ℕ → Broken A
broken first second f = record { word = f.0; len = length f.1; first = first f.1; second = second f.1 }

-- a verdict and a comparison by the break that there is, if any
abbrev pub verdict_of : {A : Type 0} → Option (Broken A) → Judgement A
verdict_of None = holds
verdict_of (Some b) = breaks b

abbrev pub agreement_of : {A : Type 0} → Option (Broken A) → Agreement A
agreement_of None = agree
agreement_of (Some b) = differ b

-- whether two parts have one alphabet, whose words of m letters are few
abbrev pub fitting : ℕ → ℕ → ℕ → Result (Unit {0}) Refusal
fitting q other m = tested (((q == other), AlphabetsDiffer) ∷ (few_words q m, TooManyWords) ∷ [])

-- whether a rule and a density make a bench, and whether two densities can be compared
abbrev pub bench_checked : {C : Type 0} {K : Kind C} → Bench K → Result (Unit {0}) Refusal
bench_checked b = fitting b.rule.q b.density.q (b.rule.n + b.density.k - 1)

abbrev pub pair_checked : {A : Type 0} → Weights A → Weights A → Result (Unit {0}) Refusal
pair_checked d e = fitting d.q e.q (max d.k e.k)

-- what is found with strips of some room: the failing word with the ring that shows it, if a word fails
abbrev pub Found : Type 0
Found = Result (Option (ℕ × List ℕ)) Refusal

-- what judging finds and answers, by the room of the strips for crossings and for a ring
module _ {C : Type 0} {K : Kind C} (b : Bench K) (crossing_room ring_room : ℕ) where
  abbrev pub judge_found : Found
  judge_found = and_then (bench_checked b) (λ _. examined K padding (label_of b) crossing_room ring_room)

  -- the crossings that are written: none where the call is refused
  abbrev pub judge_crossings : List K.group.Carrier
  judge_crossings = unless_refused judge_found (crossings_of b)

  -- the answer, by the break that there is, if any
  abbrev pub judge_break : Result (Option (Broken K.group.Carrier)) Refusal
  judge_break = and_then judge_found (λ f. Ok (option_map (broken (total_before b) (total_after b)) f))

  abbrev pub judging : Result (Judgement K.group.Carrier) Refusal
  judging = and_then judge_found (λ f. Ok (verdict_of (option_map (broken (total_before b) (total_after b)) f)))

-- what comparing finds and answers, likewise
module _ {C : Type 0} (K : Kind C) (d e : Weights K.group.Carrier) (crossing_room ring_room : ℕ) where
  abbrev pub compare_found : Found
  compare_found = and_then (pair_checked d e) (λ _. examined K padding (two_label_list K.group d e) crossing_room ring_room)

  abbrev pub compare_crossings : List K.group.Carrier
  compare_crossings = unless_refused compare_found (crossings K padding (two_label_list K.group d e))

  abbrev pub comparing : Result (Agreement K.group.Carrier) Refusal
  comparing = and_then compare_found (λ f. Ok (agreement_of (option_map (broken (total K.group d) (total K.group e)) f)))

-- the two strips that a call is lent, for crossings and for a ring
pub record Lent (C : Type 0) : Type 0 where
  pub crossings : List C
  pub ring : List ℕ

abbrev pub lent : {C : Type 0} → List C → List ℕ → Lent C
lent charges cells = record { crossings = charges; ring = cells }

-- what is left on the strips: the crossings and the ring that are written, each at the front of its strip, and none
-- where the call is refused
pub record Leaves {C : Type 0} (K : Kind C) (found : Found) (all : List K.group.Carrier) (old new : Lent C) : Type 0 where
  pub crossings : FrontMeans K (unless_refused found all) old.crossings new.crossings
  pub ring : new.ring ≡ at_front (ring_written found) old.ring

abbrev pub JudgeLeaves : {C : Type 0} {K : Kind C} → Bench K → Lent C → Lent C → Type 0
JudgeLeaves {C} {K} b old new = Leaves K (judge_found b (length old.crossings) (length old.ring)) (crossings_of b) old new

abbrev pub CompareLeaves : {C : Type 0} (K : Kind C) (d e : Weights K.group.Carrier) → Lent C → Lent C → Type 0
CompareLeaves K d e old new = Leaves K (compare_found K d e (length old.crossings) (length old.ring)) (crossings K padding (two_label_list K.group d e)) old new
