-- Judging and comparing in voices is judging and comparing in whole numbers without bounds. Assumes nothing.
use Rattle.std.proofs.Common.{◌≡◌, ℕ, zero, suc, ◌+◌, ◌-◌, ◌*◌, ◌^◌, ◌<◌, ◌≤◌, max, cond, not, List, ◌∷◌, map, length, get_or, ℤ, nat_abs, Some, None, Ok, Err, Option, option_map, sym, refl, ap, ◌∙◌, subst, ap₂, mul-le-mul_right, arith}
use native.Mathlib.Nat.{add-mul}
use mathlib.Core.Path.{fun_ext}
use lib.ListN.{length-map}
use Rattle.fault.specs.Answers.{and_then}
use Rattle.fault.specs.Limits.{most_cells}
use Rattle.charge.specs.Kinds.{voice_group, voices, signed}
use Rattle.charge.specs.Residues.{Below}
use Rattle.automaton.specs.Words.{code, word, window, table, cell}
use Rattle.automaton.specs.Meanings.{Local, Weights, Weighed, next, total}
use Rattle.automaton.specs.Ranges.{InRange}
use Rattle.automaton.proofs.Codes.{length-word}
use Rattle.automaton.proofs.Steps.{length-next}
use Rattle.criterion.specs.Answers.{examined}
use Rattle.criterion.specs.Balance.{ring_a, ring_b}
use Rattle.criterion.specs.Labelled.{LabelList, label_at, label_weights}
use Rattle.criterion.specs.Search.{padding, first_of, sums_to_zero, J, crossings, with_room, fails, shown, failure}
use Rattle.criterion.proofs.Pads.{length_pad}
use Rattle.bench.specs.Labels.{listed, rule_label, two_label}
use Rattle.bench.specs.Benches.{total_before, total_after}
use Rattle.bench.specs.Laws.{integers, whole, VerdictRight, ComparisonRight}
use Rattle.bench.specs.Verdicts.{Broken, broken, verdict_of, agreement_of, Found, bench_checked, pair_checked, judge_found, compare_found}
use Rattle.bench.specs.Unbounded.{unbounded, whole_bench, whole_break, whole_judgement, whole_comparison, VerdictUnbounded, ComparisonUnbounded}
use Rattle.bench.proofs.Readings.{Reads, zero-reads, signed-reads, tested-reads, sum-reads, crossing-reads, crossed-reads, whole-reads, total-reads, label_end, rule_label-reads, two_label-reads}
use Rattle.bench.proofs.Rights.{verdict_right, comparison_right}

map-window : {X Y : Type 0} (f : X → Y) (m : ℕ) (s : ℕ → X) (i : ℕ) → map f (window m s i) ≡ window m (λ t. f (s t)) i
map-window f zero s i = refl
map-window f (suc m) s i = ap (λ xs. f (s i) ∷ xs) (map-window f m s (suc i))

window_small : (t m : ℕ) (s : ℕ → Below (2 ^ 64)) (i j : ℕ) → ((n : ℕ) → nat_abs (signed (s n)) ≤ t) → nat_abs (signed (get_or (window m s i) j voice_group.zero)) ≤ t
window_small t zero s i j each = omega arith
window_small t (suc m) s i zero each = each i
window_small t (suc m) s i (suc j) each = window_small t m s (suc i) j each

-- a label in voices, its charges read as whole numbers
abbrev whole_label : LabelList (Below (2 ^ 64)) → LabelList ℤ
whole_label L = record { q = L.q; m = L.m; charges = map signed L.charges }

-- A label in voices, whose charges are small as whole numbers: so are the sums over its words and over the rings shown.
module _ (L : LabelList (Below (2 ^ 64))) (t z : ℕ) (label : (w : List ℕ) → Reads (label_at integers (whole_label L) w) (label_at voice_group L w) t) (room : (2 * L.m + 1) * t < 2 ^ 63) where
  fits : (n : ℕ) → n ≤ 2 * L.m + 1 → n * t < 2 ^ 63
  fits n h = omega (arith, mul-le-mul_right t h, room)

  fails-whole : (w : List ℕ) → fails voices z L w ≡ fails unbounded z (whole_label L) w
  fails-whole w =
      ap not
      (tested-reads (label w) (crossed-reads (label_at integers (whole_label L)) (label_at voice_group L) t z L.m label w)
      (omega (arith, fits 1 (omega arith)))
      (omega (arith, fits (L.m - 1 + (L.m - 1)) (omega arith), add-mul (L.m - 1) (L.m - 1) t)))

  sums-whole : (c : List ℕ) → length c ≤ 2 * L.m → sums_to_zero voices L c ≡ sums_to_zero unbounded (whole_label L) c
  sums-whole c short =
      let at : ℕ → List ℕ = window L.m (cell c) in
      tested-reads (sum-reads (λ i. label_at integers (whole_label L) (at i)) (λ i. label_at voice_group L (at i)) t (length c) (λ i. label (at i))) zero-reads
      (fits (length c) (omega arith)) (omega arith)

  shown-whole : (c : ℕ) → shown voices z L (word L.q L.m c) ≡ shown unbounded z (whole_label L) (word L.q L.m c)
  shown-whole c =
      let w : List ℕ = word L.q L.m c in
      ap (λ b. cond b (ring_b z L.m w) (ring_a z L.m w))
      (sums-whole (ring_a z L.m w) (omega (arith, length_pad z w (L.m - 1), length-word L.q L.m c)))

  failure-whole : failure voices z L ≡ failure unbounded z (whole_label L)
  failure-whole =
      ap₂ (λ ring test. option_map (λ c. (c, ring c)) (first_of test 0 (L.q ^ L.m)))
      (fun_ext shown-whole) (fun_ext (λ c. fails-whole (word L.q L.m c)))

  examined-whole : (crossing_room ring_room : ℕ) → examined voices z L crossing_room ring_room ≡ examined unbounded z (whole_label L) crossing_room ring_room
  examined-whole crossing_room ring_room = ap (with_room voices z L crossing_room ring_room) failure-whole

  crossings-whole : map signed (crossings voices z L) ≡ crossings unbounded z (whole_label L)
  crossings-whole =
      let at : ℕ → List ℕ = word L.q (L.m - 1) in
      map-window signed (L.q ^ (L.m - 1)) (λ v. J voices z L (at v)) 0
      ∙ ap (table (L.q ^ (L.m - 1)))
      (fun_ext
      (λ v. signed-reads (crossing-reads (label_at integers (whole_label L)) (label_at voice_group L) t z L.m label (at v)) (fits (L.m - 1) (omega arith))))

-- the label on words of m letters that small whole numbers d mean in voices
module _ (q m : ℕ) (d : List ℕ → ℤ) (D : List ℕ → Below (2 ^ 64)) (label : (w : List ℕ) → Reads (d w) (D w) label_end) (narrow : m ≤ 23) where
  same-label : (c : ℕ) → signed (D (word q m c)) ≡ d (word q m c)
  same-label c = signed-reads (label (word q m c)) (omega arith)

  listed-whole : whole_label (listed q m D) ≡ listed q m d
  listed-whole =
      ap (λ charges. record { q = q; m = m; charges = charges })
      (map-window signed (q ^ m) (λ c. D (word q m c)) 0 ∙ ap (table (q ^ m)) (fun_ext same-label))

  listed-reads : (w : List ℕ) → Reads (label_at integers (whole_label (listed q m D)) w) (label_at voice_group (listed q m D) w) label_end
  listed-reads w =
      whole-reads (label_weights (listed q m D)) label_end w
      (window_small label_end (q ^ m) (λ c. D (word q m c)) 0 (code q w)
      (λ c. subst (λ x. nat_abs x ≤ label_end) (sym (same-label c)) (label (word q m c)).small))

  listed-examined : (crossing_room ring_room : ℕ) →
      examined voices padding (listed q m D) crossing_room ring_room ≡ examined unbounded padding (listed q m d) crossing_room ring_room
  listed-examined crossing_room ring_room =
      examined-whole (listed q m D) label_end padding listed-reads (omega arith) crossing_room ring_room
      ∙ ap (λ L. examined unbounded padding L crossing_room ring_room) listed-whole

  listed-crossings : map signed (crossings voices padding (listed q m D)) ≡ crossings unbounded padding (listed q m d)
  listed-crossings =
      crossings-whole (listed q m D) label_end padding listed-reads (omega arith) ∙ ap (crossings unbounded padding) listed-whole

-- a density's total of a ring with a length that rings have
total-whole : (d : Weights (Below (2 ^ 64))) → InRange d → (c : List ℕ) → length c ≤ most_cells → signed (total voice_group d c) ≡ total integers (whole d) c
total-whole d range c short = signed-reads (total-reads d range c) (omega arith)

weighed-whole : (d : Weights (Below (2 ^ 64))) → Weighed d → Weighed (whole d)
weighed-whole d weighed = record { sizes = weighed.sizes; each = length-map d.charges signed ∙ weighed.each }

-- What is said of what is found, by the totals A and B in voices and the totals a and b in whole numbers: read as whole
-- numbers, the one is the other, if the totals of the ring that is shown are.
module _ {X Y : Type 0} (said : Option (Broken (Below (2 ^ 64))) → X) (said' : Option (Broken ℤ) → Y) (read : X → Y)
    (reads : (o : Option (Broken (Below (2 ^ 64)))) → read (said o) ≡ said' (option_map whole_break o))
    (A B : List ℕ → Below (2 ^ 64)) (a b : List ℕ → ℤ) where
  said-whole : (f g : Found) → f ≡ g → ((c : ℕ × List ℕ) → f ≡ Ok (Some c) → (signed (A c.1) ≡ a c.1) × (signed (B c.1) ≡ b c.1)) →
      and_then (and_then f (λ o. Ok (said (option_map (broken A B) o)))) (λ x. Ok (read x)) ≡ and_then g (λ o. Ok (said' (option_map (broken a b) o)))
  said-whole f g same totals = told f totals ∙ ap (λ x. and_then x (λ o. Ok (said' (option_map (broken a b) o)))) same
    where
      told : (f : Found) → ((c : ℕ × List ℕ) → f ≡ Ok (Some c) → (signed (A c.1) ≡ a c.1) × (signed (B c.1) ≡ b c.1)) →
          and_then (and_then f (λ o. Ok (said (option_map (broken A B) o)))) (λ x. Ok (read x)) ≡ and_then f (λ o. Ok (said' (option_map (broken a b) o)))
      told (Err e) totals = refl
      told (Ok None) totals = ap Ok (reads None)
      told (Ok (Some c)) totals =
          ap Ok
          (reads (Some (broken A B c))
          ∙ ap₂ (λ x y. said' (Some (record { word = c.0; len = length c.1; first = x; second = y }))) (totals c refl).0 (totals c refl).1)

verdict-reads : (o : Option (Broken (Below (2 ^ 64)))) → whole_judgement (verdict_of o) ≡ verdict_of (option_map whole_break o)
verdict-reads None = refl
verdict-reads (Some b) = refl

comparison-reads : (o : Option (Broken (Below (2 ^ 64)))) → whole_comparison (agreement_of o) ≡ agreement_of (option_map whole_break o)
comparison-reads None = refl
comparison-reads (Some b) = refl

pub verdict_unbounded : VerdictUnbounded
verdict_unbounded b lawful weighed range crossing_room ring_room =
    let r : Local = b.rule in
    let d : Weights (Below (2 ^ 64)) = b.density in
    let m : ℕ = r.n + d.k - 1 in
    let narrow : m ≤ 23 = omega (arith, lawful.sizes.3, weighed.sizes.3) in
    let found : judge_found b crossing_room ring_room ≡ judge_found (whole_bench b) crossing_room ring_room =
    ap (λ e. and_then (bench_checked b) (λ _. e))
    (listed-examined r.q m (rule_label integers r (whole d)) (rule_label voice_group r d) (rule_label-reads r d range) narrow crossing_room ring_room) in
    record {
      found = found;
      right =
          subst (VerdictRight (whole_bench b)) (sym found)
          (verdict_right unbounded crossing_room ring_room (whole_bench b) lawful (weighed-whole d weighed));
      answer =
          said-whole verdict_of verdict_of whole_judgement verdict-reads (total_before b) (total_after b) (total_before (whole_bench b)) (total_after (whole_bench b))
          (judge_found b crossing_room ring_room) (judge_found (whole_bench b) crossing_room ring_room) found
          (λ c is.
          let apart = subst (VerdictRight b) is (verdict_right voices crossing_room ring_room b lawful weighed) in
          let short : length c.1 ≤ most_cells = omega (arith, apart.1, lawful.sizes.3, weighed.sizes.3) in
          (total-whole d range c.1 short, total-whole d range (next r c.1) (omega (arith, length-next r c.1))));
      crossings = listed-crossings r.q m (rule_label integers r (whole d)) (rule_label voice_group r d) (rule_label-reads r d range) narrow;
    }

pub comparison_unbounded : ComparisonUnbounded
comparison_unbounded d e weighed weighed' range range' crossing_room ring_room =
    let m : ℕ = max d.k e.k in
    let narrow : m ≤ 23 = omega (arith, weighed.sizes.3, weighed'.sizes.3) in
    let found : compare_found voices d e crossing_room ring_room ≡ compare_found unbounded (whole d) (whole e) crossing_room ring_room =
    ap (λ x. and_then (pair_checked d e) (λ _. x))
    (listed-examined d.q m (two_label integers (whole d) (whole e)) (two_label voice_group d e) (two_label-reads d e range range') narrow crossing_room ring_room) in
    record {
      found = found;
      right =
          subst (ComparisonRight unbounded (whole d) (whole e)) (sym found)
          (comparison_right unbounded crossing_room ring_room (whole d) (whole e) (weighed-whole d weighed) (weighed-whole e weighed'));
      answer =
          said-whole agreement_of agreement_of whole_comparison comparison-reads (total voice_group d) (total voice_group e) (total integers (whole d)) (total integers (whole e))
          (compare_found voices d e crossing_room ring_room) (compare_found unbounded (whole d) (whole e) crossing_room ring_room) found
          (λ c is.
          let apart = subst (ComparisonRight voices d e) is (comparison_right voices crossing_room ring_room d e weighed weighed') in
          let short : length c.1 ≤ most_cells = omega (arith, apart.1, weighed.sizes.3, weighed'.sizes.3) in
          (total-whole d range c.1 short, total-whole e range' c.1 short));
      crossings = listed-crossings d.q m (two_label integers (whole d) (whole e)) (two_label voice_group d e) (two_label-reads d e range range') narrow;
    }
