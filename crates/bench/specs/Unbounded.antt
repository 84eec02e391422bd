-- What judging and comparing in voices say of whole numbers without bounds. Assumes nothing.
use Rattle.std.specs.Prelude.{◌≡◌, ℕ, ◌^◌, map, ℤ, Ok}
use Rattle.std.specs.Ordering.{int_eq}
use Rattle.std.proofs.lemmas.Bool.Decides.{Decides-int_eq}
use Rattle.fault.specs.Answers.{and_then}
use Rattle.charge.specs.Groups.{Kind}
use Rattle.charge.specs.Kinds.{voice_group, voices, signed}
use Rattle.charge.specs.Ranges.{voices_range}
use Rattle.charge.specs.Residues.{Below}
use Rattle.automaton.specs.Meanings.{Weights, Lawful, Weighed}
use Rattle.automaton.specs.Ranges.{InRange}
use Rattle.criterion.specs.Search.{padding, crossings}
use Rattle.bench.specs.Labels.{two_label_list}
use Rattle.bench.specs.Benches.{Bench, bench_of, crossings_of}
use Rattle.bench.specs.Laws.{integers, whole, VerdictRight, ComparisonRight}
use Rattle.bench.specs.Verdicts.{Broken, Judgement, holds, breaks, Agreement, agree, differ, judge_found, judging, compare_found, comparing}

-- whole numbers without bounds as a kind of charge: each means itself
abbrev pub unbounded : Kind ℤ
unbounded = record {
  group = integers;
  means = λ z. z;
  same = int_eq;
  decides = Decides-int_eq;
  entry = voices_range;
}

-- a bench in voices, the charges of its density read as whole numbers
abbrev pub whole_bench : Bench voices → Bench unbounded
whole_bench b = bench_of unbounded b.rule (whole b.density)

-- a break in voices, its two totals read as whole numbers
abbrev pub whole_break : Broken (Below (2 ^ 64)) → Broken ℤ
whole_break b = record { word = b.word; len = b.len; first = signed b.first; second = signed b.second }

-- what judging and comparing say in voices, likewise
abbrev pub whole_judgement : Judgement (Below (2 ^ 64)) → Judgement ℤ
whole_judgement holds = holds
whole_judgement (breaks b) = breaks (whole_break b)

abbrev pub whole_comparison : Agreement (Below (2 ^ 64)) → Agreement ℤ
whole_comparison agree = agree
whole_comparison (differ b) = differ (whole_break b)

-- Judging in voices is judging in whole numbers without bounds: the same word is found to fail and the same ring to
-- show it. What is found is right of unbounded totals: under "holds" no ring changes its own, otherwise the ring shown
-- does. The totals that are answered are the unbounded totals, and so are the crossings.
pub record JudgedWhole (b : Bench voices) (crossing_room ring_room : ℕ) : Type 0 where
  pub found : judge_found b crossing_room ring_room ≡ judge_found (whole_bench b) crossing_room ring_room
  pub right : VerdictRight (whole_bench b) (judge_found b crossing_room ring_room)
  pub answer : and_then (judging b crossing_room ring_room) (λ v. Ok (whole_judgement v)) ≡ judging (whole_bench b) crossing_room ring_room
  pub crossings : map signed (crossings_of b) ≡ crossings_of (whole_bench b)

-- Comparing in voices is comparing in whole numbers without bounds, likewise.
pub record ComparedWhole (d e : Weights (Below (2 ^ 64))) (crossing_room ring_room : ℕ) : Type 0 where
  pub found : compare_found voices d e crossing_room ring_room ≡ compare_found unbounded (whole d) (whole e) crossing_room ring_room
  pub right : ComparisonRight unbounded (whole d) (whole e) (compare_found voices d e crossing_room ring_room)
  pub answer : and_then (comparing voices d e crossing_room ring_room) (λ v. Ok (whole_comparison v)) ≡ comparing unbounded (whole d) (whole e) crossing_room ring_room
  pub crossings : map signed (crossings voices padding (two_label_list voice_group d e)) ≡ crossings unbounded padding (two_label_list integers (whole d) (whole e))

-- so it is for every bench with entries in range, on strips of any room
abbrev pub VerdictUnbounded : Type 0
VerdictUnbounded = (b : Bench voices) → Lawful b.rule → Weighed b.density → InRange b.density →
    (crossing_room ring_room : ℕ) → JudgedWhole b crossing_room ring_room

-- and for every two densities with entries in range
abbrev pub ComparisonUnbounded : Type 0
ComparisonUnbounded = (d e : Weights (Below (2 ^ 64))) → Weighed d → Weighed e → InRange d → InRange e →
    (crossing_room ring_room : ℕ) → ComparedWhole d e crossing_room ring_room
