-- What is found among the words of a label that keeps sizes of its own. Assumes nothing.
use Rattle.std.proofs.Common.{◌≡◌, ℕ, ◌+◌, ◌-◌, ◌^◌, ◌≤◌, max, List, length, take, drop, Some, None, Ok, Err, Option, Result, sym, refl, ap, ◌∙◌, subst, ap₂, arith, length-append, take_at}
use Rattle.fault.specs.Answers.{and_then, at_front, strip_after}
use Rattle.fault.specs.declared.Stop.TheVariants.{ShortStrip}
use Rattle.fault.specs.Limits.{most_words}
use Rattle.fault.specs.declared.Fault.{Fault}
use Rattle.fault.specs.Refusals.{Refusal, refused_at}
use Rattle.std.proofs.lemmas.Bool.Decides.{nat_tests}
use Rattle.charge.specs.Groups.{Kind}
use Rattle.automaton.specs.Words.{Letters}
use Rattle.automaton.specs.Making.{ring_checked, passes}
use Rattle.automaton.specs.Meanings.{Local, Weights, Lawful, Weighed, next, total}
use Rattle.automaton.proofs.Passes.{ring_ready}
use Rattle.automaton.proofs.Steps.{length-next, next_word}
use Rattle.criterion.specs.declared.search.Failure.{Failure}
use Rattle.criterion.specs.Answers.{failure_seen, with_length, examined, crossings_written, ring_written}
use Rattle.criterion.specs.Labelled.{LabelList}
use Rattle.criterion.specs.Search.{padding}
use Rattle.criterion.specs.ChargeStrips.{FrontMeans}
use Rattle.bench.specs.Labels.{rule_label_list, two_label, two_label_list, listed}
use Rattle.bench.specs.Benches.{Bench, label_of}
use Rattle.bench.specs.Laws.{VerdictRight, ComparisonRight}
use Rattle.bench.specs.KeptSizes.{SizesOf, sized_rule, sized_density, first_sized, second_sized}
use Rattle.bench.specs.Promises.{SearchesWords}
use Rattle.bench.specs.Verdicts.{ShownRing, bench_checked, fitting, Found, Lent, judge_found, judge_break, compare_found}
use Rattle.bench.specs.declared.sizes.RuleSizes.{RuleSizes}
use Rattle.bench.specs.declared.sizes.TwoSizes.{TwoSizes}
use Rattle.bench.proofs.Rights.{fits, label-sizes, verdict_right, comparison_right}

module _ {C : Type 0} (K : Kind C) (L M : LabelList K.group.Carrier) (t : Result (Unit {0}) Refusal) (result : Result (Option Failure) Fault) (old new : Lent C) where
  abbrev look : LabelList K.group.Carrier → Found
  look N = examined K padding N (length old.crossings) (length old.ring)

  -- the same label under another name, once the sizes have passed
  pub left_passed : t ≡ Ok tt → L ≡ M → failure_seen result ≡ with_length (look L) → FrontMeans K (crossings_written K padding L (length old.crossings) (length old.ring)) old.crossings new.crossings →
      new.ring ≡ at_front (ring_written (look L)) old.ring → SearchesWords K (and_then t (λ _. look M)) M old result new
  left_passed passed same x y z =
      subst (λ (u : Result (Unit {0}) Refusal). SearchesWords K (and_then u (λ _. look M)) M old result new) (sym passed)
      (subst (λ (N : LabelList K.group.Carrier). SearchesWords K (look N) N old result new) same (record { answer = x; left = record { crossings = y; ring = z } }))

-- sizes that a rule and a density have are those of a bench
pub sizes-pass : {C : Type 0} {K : Kind C} (s : RuleSizes) (b : Bench K) → SizesOf s b.rule b.density → bench_checked b ≡ Ok tt
sizes-pass s b sized =
    let few : b.rule.q ^ (b.rule.n + b.density.k - 1) ≤ most_words = rw (sym sized.0, sym sized.1, sym sized.3, sym s.whole) s.words.few in
    let same : b.rule.q ≡ b.density.q = sym sized.0 ∙ sized.4 in
    grind (arith, nat_tests)

-- what such a bench is refused by
pub only_short : {C : Type 0} {K : Kind C} (b : Bench K) (crossing_room ring_room : ℕ) (f : Refusal) → bench_checked b ≡ Ok tt → Err f ≡ judge_break b crossing_room ring_room → f ≡ refused_at ShortStrip 0
only_short b crossing_room ring_room f passed e = grind (arith, nat_tests)

-- a label that keeps the sizes that its parts have is the label of its parts
pub rule_list-same : {C : Type 0} (K : Kind C) (s : RuleSizes) (r : Local) (d : Weights K.group.Carrier) →
    s.words.q ≡ r.q → s.n ≡ r.n → s.l ≡ r.l → s.k ≡ d.k → s.words.q ≡ d.q → rule_label_list K.group (sized_rule s r) (sized_density s d) ≡ rule_label_list K.group r d
rule_list-same {C} K s r d eq en el ek eq' =
    ap₂ (rule_label_list K.group) rule density
  where
    rule : sized_rule s r ≡ r
    rule i = record { q = eq i; n = en i; l = el i; answers = r.answers }

    density : sized_density s d ≡ d
    density i = record { q = eq' i; k = ek i; charges = d.charges }

pub two_list-same : {C : Type 0} (K : Kind C) (s : TwoSizes) (d e : Weights K.group.Carrier) →
    s.words.q ≡ d.q → s.first ≡ d.k → s.second ≡ e.k → s.words.q ≡ e.q → s.words.m ≡ max s.first s.second →
    listed s.words.q s.words.m (two_label K.group (first_sized s d) (second_sized s e)) ≡ two_label_list K.group d e
two_list-same {C} K s d e eq e1 e2 eq' em =
    ap (λ (m : ℕ). listed s.words.q m (two_label K.group (first_sized s d) (second_sized s e))) em ∙ ap₂ (two_label_list K.group) first second
  where
    first : first_sized s d ≡ d
    first i = record { q = eq i; k = e1 i; charges = d.charges }

    second : second_sized s e ≡ e
    second i = record { q = eq' i; k = e2 i; charges = e.charges }

-- The ring that a call has shown, where it answers a failing word and a length: what the strip holds at its front.
pub record Shown (q : ℕ) (found : Result (Option (ℕ × List ℕ)) Refusal) (word len : ℕ) (strip : List ℕ) : Type 0 where
  pub ring : List ℕ
  pub is : found ≡ Ok (Some (word, ring))
  pub size : length ring ≡ len
  pub part : take len strip ≡ ring
  pub room : len ≤ length strip
  pub some : 1 ≤ len
  pub most : len ≤ 23
  pub letters : Letters q ring

counted-some : (found : Result (Option (ℕ × List ℕ)) Refusal) (w n : ℕ) → Ok (Some (w, n)) ≡ with_length found → (c : List ℕ) × (found ≡ Ok (Some (w, c))) × (length c ≡ n)
counted-some (Ok None) w n e = absurd (grind (arith, e))
counted-some (Ok (Some f)) w n e =
    (f.1, ap (λ (v : ℕ). Ok (Some (v, f.1))) (grind (arith, e)), grind (arith, e))
counted-some (Err f) w n e = absurd (grind (arith, e))

shown_in : (q w n : ℕ) (found : Result (Option (ℕ × List ℕ)) Refusal) (was strip : List ℕ) → Ok (Some (w, n)) ≡ with_length found → strip ≡ at_front (ring_written found) was →
    ((c : List ℕ) → found ≡ Ok (Some (w, c)) → (1 ≤ length c) × (length c ≤ 23) × Letters q c) → Shown q found w n strip
shown_in q w n found was strip e s apart =
    let p = counted-some found w n e in
    let c = p.0 in
    let a = apart c p.1 in
    let whole : strip ≡ at_front c was = s ∙ ap (λ (x : Result (Option (ℕ × List ℕ)) Refusal). at_front (ring_written x) was) p.1 in
    let longer = ap length whole ∙ length-append c (drop (length c) was) in
    record {
      ring = c;
      is = p.1;
      size = p.2;
      part = ap (take n) whole ∙ take_at c (drop (length c) was) n (omega (arith, p.2));
      room = omega (arith, p.2, longer);
      some = omega (arith, a.0, p.2);
      most = omega (arith, a.1, p.2);
      letters = a.2;
    }

passed : (q other m : ℕ) (x : Result (Option (ℕ × List ℕ)) Refusal) (y : Option (ℕ × List ℕ)) → and_then (fitting q other m) (λ _. x) ≡ Ok y → fitting q other m ≡ Ok tt
passed q other m x y e = through (fitting q other m) e
  where
    through : (t : Result (Unit {0}) Refusal) → and_then t (λ _. x) ≡ Ok y → t ≡ Ok tt
    through (Ok u) e = refl
    through (Err f) e = absurd (grind (arith, e))

-- the ring that a search has shown
module _ {C : Type 0} (K : Kind C) (f : Failure) (old new : Lent C) where
  pub judge-shown : (b : Bench K) → Lawful b.rule → Weighed b.density → (let found = judge_found b (length old.crossings) (length old.ring) in
      SearchesWords K found (label_of b) old (Ok (Some f)) new → Shown b.rule.q found f.word f.len new.ring × (b.rule.q ≡ b.density.q))
  judge-shown b lawful weighed searched =
      let found = judge_found b (length old.crossings) (length old.ring) in
      let c = counted-some found f.word f.len searched.answer in
      let m : ℕ = b.rule.n + b.density.k - 1 in
      let fit = fits b.rule.q b.density.q m (passed b.rule.q b.density.q m _ _ c.1) in
      let sizes = label-sizes b.rule.q m lawful.sizes.0 lawful.sizes.1 (omega (arith, lawful.sizes.2, weighed.sizes.2)) fit.1 in (
        shown_in b.rule.q f.word f.len found old.ring new.ring searched.answer searched.left.ring
            (λ ring is.
            let apart = subst (VerdictRight b) is (verdict_right K (length old.crossings) (length old.ring) b lawful weighed) in
            (apart.0, omega (arith, apart.1, sizes.3), apart.2)),
        fit.0,
      )

  pub compare-shown : (d e : Weights K.group.Carrier) → Weighed d → Weighed e → (let found = compare_found K d e (length old.crossings) (length old.ring) in
      SearchesWords K found (two_label_list K.group d e) old (Ok (Some f)) new → Shown d.q found f.word f.len new.ring × (d.q ≡ e.q))
  compare-shown d e weighed weighed' searched =
      let found = compare_found K d e (length old.crossings) (length old.ring) in
      let c = counted-some found f.word f.len searched.answer in
      let m : ℕ = max d.k e.k in
      let fit = fits d.q e.q m (passed d.q e.q m _ _ c.1) in (
        shown_in d.q f.word f.len found old.ring new.ring searched.answer searched.left.ring
            (λ ring is.
            let apart = subst (ComparisonRight K d e) is (comparison_right K (length old.crossings) (length old.ring) d e weighed weighed') in
            (apart.0, omega (arith, apart.1, weighed.sizes.3, weighed'.sizes.3), apart.2)),
        fit.0,
      )

-- the part of the strip that is the ring
module _ {q : ℕ} {found : Result (Option (ℕ × List ℕ)) Refusal} {w n : ℕ} {strip : List ℕ} (s : Shown q found w n strip) where
  pub shown-fits : ShownRing q (take n strip)
  shown-fits =
      let size = ap length s.part ∙ s.size in
      (omega (arith, s.some, size), omega (arith, s.most, size), subst (Letters q) (sym s.part) s.letters)

-- a ring that may be shown has its total, and its next ring
module _ {C : Type 0} (K : Kind C) (d : Weights K.group.Carrier) where
  pub total_is : (ring : List ℕ) → ShownRing d.q ring → and_then (ring_checked d.q (length ring) ring) (λ c. Ok (total K.group d c)) ≡ Ok (total K.group d ring)
  total_is ring shows = ap (λ t. and_then t (λ c. Ok (total K.group d c))) (ring_ready d.q (length ring) ring shows.0 (omega (arith, shows.1)) (omega arith) shows.2)

  pub not-refused : (ring : List ℕ) → ShownRing d.q ring → (f : Refusal) → Err f ≡ and_then (ring_checked d.q (length ring) ring) (λ c. Ok (total K.group d c)) → ⊥
  not-refused ring shows f e = let clash : Err f ≡ Ok (total K.group d ring) = e ∙ total_is ring shows in grind arith

module _ (r : Local) (ring : List ℕ) (shows : ShownRing r.q ring) (was : List ℕ) (long : length was ≡ 23) where
  ready : ring_checked r.q (length was) ring ≡ Ok ring
  ready = ring_ready r.q (length was) ring shows.0 (omega (arith, shows.1)) (omega (arith, shows.1)) shows.2

  pub next-given : (f : Refusal) → Err f ≡ passes (ring_checked r.q (length was) ring) → ⊥
  next-given f e = let clash : Err f ≡ Ok tt = e ∙ ap passes ready in grind arith

  pub next-part : (strip : List ℕ) → strip ≡ strip_after (next r) was (ring_checked r.q (length was) ring) → take (length ring) strip ≡ next r ring
  next-part strip e =
      ap (take (length ring)) (e ∙ ap (strip_after (next r) was) ready)
      ∙ take_at (next r ring) (drop (length (next r ring)) was) (length ring) (omega (arith, length-next r ring))

  pub next-shows : Lawful r → ShownRing r.q (next r ring)
  next-shows lawful =
      (omega (arith, length-next r ring, shows.0), omega (arith, length-next r ring, shows.1), (next_word r ring (omega (arith, lawful.sizes.0)) lawful.letters).1)

  -- the total of the ring after one step
  pub later_is : {C : Type 0} (K : Kind C) (d : Weights K.group.Carrier) → Lawful r → r.q ≡ d.q → (strip : List ℕ) → strip ≡ strip_after (next r) was (ring_checked r.q (length was) ring) →
      and_then (ring_checked d.q (length (take (length ring) strip)) (take (length ring) strip)) (λ c. Ok (total K.group d c)) ≡ Ok (total K.group d (next r ring))
  later_is K d lawful alphabet strip e =
      let part = next-part strip e in
      ap (λ c. and_then (ring_checked d.q (length c) c) (λ c. Ok (total K.group d c))) part
      ∙ total_is K d (next r ring) (subst (λ (q : ℕ). ShownRing q (next r ring)) alphabet (next-shows lawful))
