-- What judging a bench and comparing two densities promise. Assumes nothing.
use Rattle.std.specs.Prelude.{◌≡◌, length, Option, Result, IsOkUnless}
use Rattle.fault.specs.declared.Fault.{Fault}
use Rattle.fault.specs.declared.Stop.TheVariants.{ShortStrip}
use Rattle.fault.specs.Refusals.{refused_at}
use Rattle.charge.specs.Groups.{Kind}
use Rattle.automaton.specs.Meanings.{Weights}
use Rattle.criterion.specs.declared.search.Failure.{Failure}
use Rattle.criterion.specs.Answers.{failure_seen, with_length}
use Rattle.criterion.specs.Labelled.{LabelList}
use Rattle.criterion.specs.Search.{padding, crossings}
use Rattle.bench.specs.declared.state.Comparison.{Comparison}
use Rattle.bench.specs.declared.state.Refused.{Refused}
use Rattle.bench.specs.declared.state.Verdict.{Verdict}
use Rattle.bench.specs.Benches.{Bench}
use Rattle.bench.specs.Answers.{judge_said, compare_said}
use Rattle.bench.specs.Laws.{VerdictRight, VerdictWhole, ComparisonRight, ComparisonWhole}
use Rattle.bench.specs.Verdicts.{Found, Lent, Leaves, judge_found, judging, JudgeLeaves, compare_found, comparing, CompareLeaves}
use Rattle.bench.specs.Unbounded.{VerdictUnbounded, ComparisonUnbounded}

-- Searching the words of a label, by what is found: the failing word's code and the length of the ring that shows it
-- are answered, and the crossings and that ring are left on the strips.
pub record SearchesWords {C : Type 0} (K : Kind C) (found : Found) (label : LabelList K.group.Carrier) (old : Lent C) (result : Result (Option Failure) Fault) (new : Lent C) : Type 0 where
  pub answer : failure_seen result ≡ with_length found
  pub left : Leaves K found (crossings K padding label) old new

-- Judging a bench: what is answered, and what is left on the strips, by the strips before. Only a strip too short is
-- refused. The verdict is right of rings of every length. On voices with entries in range it is right of whole numbers
-- without bounds, and so are the ring that is shown, its totals and the crossings.
pub record Judges {C H B S : Type 0} {K : Kind C} (b : Bench K) (old : Lent C) (result : Result (Verdict C H B) (Refused S)) (new : Lent C) : Type 0 where
  pub answer : judge_said K result ≡ judging b (length old.crossings) (length old.ring)
  pub refused : IsOkUnless (judge_said K result) (refused_at ShortStrip 0)
  pub left : JudgeLeaves b old new
  pub right : VerdictRight b (judge_found b (length old.crossings) (length old.ring))
  pub whole : VerdictWhole
  pub unbounded : VerdictUnbounded

-- Comparing two densities, likewise.
pub record Compares {C : Type 0} (K : Kind C) (d e : Weights K.group.Carrier) (old : Lent C) (result : Result (Comparison C) Fault) (new : Lent C) : Type 0 where
  pub answer : compare_said K result ≡ comparing K d e (length old.crossings) (length old.ring)
  pub left : CompareLeaves K d e old new
  pub right : ComparisonRight K d e (compare_found K d e (length old.crossings) (length old.ring))
  pub whole : ComparisonWhole
  pub unbounded : ComparisonUnbounded
