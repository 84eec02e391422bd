-- What is found among the words of a label is right. Assumes nothing.
use Rattle.std.proofs.Common.{◌≡◌, ℕ, ◌+◌, ◌-◌, ◌*◌, ◌^◌, ◌<◌, ◌≤◌, max, Bool, true, false, cond, ◌&&◌, leb, List, length, Some, None, Ok, Err, Option, Result, sym, refl, ap, ◌∙◌, arith}
use native.Mathlib.Decide.{dec_lt}
use Rattle.std.proofs.lemmas.Bool.Decides.{nat_tests}
use Rattle.fault.specs.declared.Stop.TheVariants.{ShortStrip}
use Rattle.fault.specs.Answers.{and_then}
use Rattle.fault.specs.Refusals.{Refusal, refused_at}
use Rattle.fault.proofs.Powers.{too_many}
use Rattle.charge.specs.Groups.{Kind, minus}
use Rattle.charge.proofs.Sums.{same_from-minus, minus_from-same}
use Rattle.automaton.specs.Words.{Letters, Word, code, word}
use Rattle.automaton.specs.Meanings.{Weights, Lawful, Weighed, DensityLimits, total}
use Rattle.automaton.proofs.Codes.{code_lt, word-code}
use Rattle.automaton.proofs.Rings.{get_or-table}
use Rattle.criterion.specs.Balance.{ring_sum, OnlyTable}
use Rattle.criterion.specs.Answers.{examined}
use Rattle.criterion.specs.Labelled.{LabelList, label_at}
use Rattle.criterion.specs.Laws.{Shows, LabelLaw}
use Rattle.criterion.specs.Search.{padding, J, failure}
use Rattle.criterion.proofs.Criterion.{ring_sum-same}
use Rattle.criterion.proofs.LabelLaw.{label_law}
use Rattle.bench.specs.Labels.{listed, rule_label, two_label, two_label_list}
use Rattle.bench.specs.Benches.{Bench, total_before, total_after, label_of}
use Rattle.bench.specs.Laws.{Agree, Apart, VerdictRight, ComparisonRight}
use Rattle.bench.specs.KeptSizes.{listed-labelled}
use Rattle.bench.specs.Verdicts.{fitting, bench_checked, pair_checked, judge_found, compare_found}
use Rattle.bench.proofs.Gains.{step_gains, two_gains}

-- a listed label on a word
pub listed_at : {C : Type 0} (K : Kind C) (q m : ℕ) (D : List ℕ → K.group.Carrier) → 0 < q → (w : List ℕ) → Word q m w → label_at K.group (listed q m D) w ≡ D w
listed_at K q m D some w is =
    get_or-table (q ^ m) (λ c. D (word q m c)) K.group.zero (code q w) (code_lt q m w is) ∙ ap D (word-code q some m w is)

-- what is found among the words of a label D of A less B
abbrev FoundTells : {C : Type 0} → (K : Kind C) → ℕ → ℕ → (D A B : List ℕ → K.group.Carrier) → ℕ → Option (ℕ × List ℕ) → Type 0
FoundTells K q m D A B most None = Agree q A B × OnlyTable K.group D padding q m (J K padding (listed q m D))
FoundTells K q m D A B most (Some f) = Apart q most A B f.1

-- a label D on words of m letters that sums on each ring to what A is more than B
module _ {C : Type 0} (K : Kind C) (q m : ℕ) (D A B : List ℕ → K.group.Carrier) (most : ℕ) (sizes : DensityLimits q m) (few : q ^ m ≤ 4096) (bound : 2 * m - 1 ≤ most)
    (gain : (c : List ℕ) → 1 ≤ length c → ring_sum K.group D m c ≡ minus K.group (A c) (B c)) where
  some : 0 < q
  some = omega (arith, sizes.0)

  law : LabelLaw K padding (listed q m D)
  law = label_law K padding (listed q m D) (listed-labelled q m D sizes few) some

  sums : (c : List ℕ) → 1 ≤ length c → Letters q c → ring_sum K.group (label_at K.group (listed q m D)) m c ≡ minus K.group (A c) (B c)
  sums c long below = ring_sum-same K.group (label_at K.group (listed q m D)) D q m (listed_at K q m D some) c long below ∙ gain c long

  only : Shows K padding (listed q m D) None → OnlyTable K.group D padding q m (J K padding (listed q m D))
  only shows = (
    (λ w is. sym (listed_at K q m D some w is) ∙ shows.0 w is),
    shows.1,
    λ T balances zero v is. shows.2 T (λ w is. listed_at K q m D some w is ∙ balances w is) zero v is,
  )

  told : (f : Option (ℕ × List ℕ)) → failure K padding (listed q m D) ≡ f → Shows K padding (listed q m D) f → FoundTells K q m D A B most f
  told None e shows = (
    (λ c long below. same_from-minus K.group (A c) (B c) (sym (sums c long below) ∙ law.0.0 e c long below)),
    only shows,
  )
  told (Some f) e shows = (
    shows.0,
    omega (arith, shows.1),
    shows.2,
    λ same. shows.3 (sums f.1 shows.0 shows.2 ∙ minus_from-same K.group (A f.1) (B f.1) same),
  )

  pub found_right : FoundTells K q m D A B most (failure K padding (listed q m D))
  found_right = told (failure K padding (listed q m D)) refl law.1

-- what parts of one alphabet with few words have passed
pub fits : (q other m : ℕ) → fitting q other m ≡ Ok tt → (q ≡ other) × (q ^ m ≤ 4096)
fits q other m e = grind (arith, nat_tests)

pub label-sizes : (q m : ℕ) → 2 ≤ q → q ≤ 8 → 1 ≤ m → q ^ m ≤ 4096 → DensityLimits q m
label-sizes q m two eight one few = (two, eight, one, short)
  where
    short : m ≤ 12
    short = elim (dec_lt 12 m) [ yes h ↦ absurd (omega (arith, too_many q m two h)) | no h ↦ omega arith ]

module _ {C : Type 0} (K : Kind C) (crossing_room ring_room : ℕ) where
  -- what holds of every refusal, and of what is found where nothing is refused
  found_in : (P : Result (Option (ℕ × List ℕ)) Refusal → Type 0) (L : LabelList K.group.Carrier) (t : Result (Unit {0}) Refusal) → ((f : Refusal) → P (Err f)) →
      (t ≡ Ok tt → P (Ok (failure K padding L))) → P (and_then t (λ _. examined K padding L crossing_room ring_room))
  found_in P L (Err f) refused found = refused f
  found_in P L (Ok u) refused found = roomy (leb (L.q ^ (L.m - 1)) crossing_room && leb (2 * L.m - 1) ring_room)
    where
      roomy : (b : Bool) → P (cond b (Ok (failure K padding L)) (Err (refused_at ShortStrip 0)))
      roomy true = found refl
      roomy false = refused (refused_at ShortStrip 0)

  pub verdict_right : (b : Bench K) → Lawful b.rule → Weighed b.density → VerdictRight b (judge_found b crossing_room ring_room)
  verdict_right b lawful weighed =
      found_in (VerdictRight b) (label_of b) (bench_checked b) (λ f. tt)
      (λ e. said (failure K padding (label_of b))
      (found_right K b.rule.q (b.rule.n + b.density.k - 1) (rule_label K.group b.rule b.density) (total_after b) (total_before b) (2 * (b.rule.n + b.density.k) - 3)
      (label-sizes b.rule.q (b.rule.n + b.density.k - 1) lawful.sizes.0 lawful.sizes.1 (omega (arith, lawful.sizes.2, weighed.sizes.2)) (fits b.rule.q b.density.q (b.rule.n + b.density.k - 1) e).1)
      (fits b.rule.q b.density.q (b.rule.n + b.density.k - 1) e).1 (omega arith) (step_gains K.group b.rule b.density lawful.sizes.4)))
    where
      said : (f : Option (ℕ × List ℕ)) →
          FoundTells K b.rule.q (b.rule.n + b.density.k - 1) (rule_label K.group b.rule b.density) (total_after b) (total_before b) (2 * (b.rule.n + b.density.k) - 3) f →
          VerdictRight b (Ok f)
      said None t = t
      said (Some f) t = t

  pub comparison_right : (d e : Weights K.group.Carrier) → Weighed d → Weighed e → ComparisonRight K d e (compare_found K d e crossing_room ring_room)
  comparison_right d e weighed weighed' =
      found_in (ComparisonRight K d e) (two_label_list K.group d e) (pair_checked d e) (λ f. tt)
      (λ t. said (failure K padding (two_label_list K.group d e))
      (found_right K d.q (max d.k e.k) (two_label K.group d e) (total K.group d) (total K.group e) (2 * max d.k e.k - 1)
      (label-sizes d.q (max d.k e.k) weighed.sizes.0 weighed.sizes.1 (omega (arith, weighed.sizes.2)) (fits d.q e.q (max d.k e.k) t).1)
      (fits d.q e.q (max d.k e.k) t).1 (omega arith) (λ c long. two_gains K.group d e c)))
    where
      said : (f : Option (ℕ × List ℕ)) →
          FoundTells K d.q (max d.k e.k) (two_label K.group d e) (total K.group d) (total K.group e) (2 * max d.k e.k - 1) f →
          ComparisonRight K d e (Ok f)
      said None t = t
      said (Some f) t = t
