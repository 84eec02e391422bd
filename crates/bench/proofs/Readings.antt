-- Small whole numbers and what they mean in voices. Assumes nothing.
use Rattle.std.proofs.Common.{◌≡◌, ℕ, zero, suc, ◌+◌, ◌-◌, ◌*◌, ◌^◌, ◌<◌, ◌≤◌, List, ◌++◌, length, take, drop, ℤ, pos, negsuc, ◌+ℤ◌, neg_ℤ, nat_abs, Decides, sym, ap, ◌∙◌, subst, ap₂, suc-mul, zero-mul, arith, w64, SFits}
use lib.ListN.{get_or-map}
use borrow.Author.Gap.{read_sfits}
use Rattle.std.specs.Ordering.{int_eq}
use Rattle.std.proofs.lemmas.Bool.Decides.{Decides-int_eq}
use Rattle.std.proofs.lemmas.Int.{ints}
use Rattle.charge.specs.Groups.{minus, sum_over}
use Rattle.charge.specs.Kinds.{voice_group, voice_means, signed}
use Rattle.charge.specs.Ranges.{voices_end}
use Rattle.charge.specs.Residues.{Below, same_below, decides_below}
use Rattle.charge.proofs.Integers.{means-zero, means-add, means-neg, means-signed, means_apart, entry_small}
use Rattle.charge.proofs.Wraps.{wrapped_same}
use Rattle.automaton.specs.Words.{code, repeated, window, cell, before}
use Rattle.automaton.specs.Meanings.{Local, Weights, weight, site, booking_offset, total}
use Rattle.automaton.specs.Ranges.{InRange}
use Rattle.criterion.specs.Balance.{crossing}
use Rattle.criterion.proofs.Failing.{decides-same}
use Rattle.bench.specs.Labels.{next_letters, rule_label, two_label}
use Rattle.bench.specs.Laws.{integers, whole}

-- X is what a whole number x of size at most t means
pub record Reads (x : ℤ) (X : Below (2 ^ 64)) (t : ℕ) : Type 0 where
  pub means : voice_means x ≡ X
  pub small : nat_abs x ≤ t

pub zero-reads : Reads (pos 0) voice_group.zero 0
zero-reads = record { means = means-zero; small = omega arith }

nat_abs-add : (x y : ℤ) → nat_abs (x +ℤ y) ≤ nat_abs x + nat_abs y
nat_abs-add x y = omega (arith, ints)

nat_abs-neg : (x : ℤ) → nat_abs (neg_ℤ x) ≡ nat_abs x
nat_abs-neg x = omega (arith, ints)

small-fits : (z : ℤ) → nat_abs z < 2 ^ 63 → SFits w64 z
small-fits (pos n) h = record { sfits = h }
small-fits (negsuc n) h = record { sfits = omega arith }

module _ {x : ℤ} {X : Below (2 ^ 64)} {s : ℕ} (a : Reads x X s) where
  neg-reads : Reads (neg_ℤ x) (voice_group.neg X) s
  neg-reads = record { means = means-neg x ∙ ap voice_group.neg a.means; small = omega (arith, nat_abs-neg x, a.small) }

  -- the whole number is what its meaning is read as
  pub signed-reads : s < 2 ^ 63 → signed X ≡ x
  signed-reads h =
      wrapped_same (signed X) x (read_sfits w64 X.value) (small-fits x (omega (arith, a.small))) (means-signed X ∙ sym a.means)

  module _ {y : ℤ} {Y : Below (2 ^ 64)} {t : ℕ} (b : Reads y Y t) where
    add-reads : Reads (x +ℤ y) (voice_group.add X Y) (s + t)
    add-reads = record {
      means = means-add x y ∙ ap₂ voice_group.add a.means b.means;
      small = omega (arith, nat_abs-add x y, a.small, b.small);
    }

    -- two small numbers with one meaning are one
    pub same-reads : s < 2 ^ 63 → t < 2 ^ 63 → X ≡ Y → x ≡ y
    same-reads f g e = means_apart x y (omega (arith, a.small)) (omega (arith, b.small)) (a.means ∙ e ∙ sym b.means)

    -- and they are tested alike
    pub tested-reads : s < 2 ^ 63 → t < 2 ^ 63 → same_below X Y ≡ int_eq x y
    tested-reads f g =
        let test : Decides (int_eq x y) (x ≡ y) = Decides-int_eq x y in
        decides-same (same_below X Y) (int_eq x y) (decides_below X Y)
        (λ t. sym a.means ∙ ap voice_means (test.0 t) ∙ b.means, λ e. test.1 (same-reads f g e))

minus-reads : {x y : ℤ} {X Y : Below (2 ^ 64)} {s t : ℕ} → Reads x X s → Reads y Y t → Reads (minus integers x y) (minus voice_group X Y) (s + t)
minus-reads a b = add-reads a (neg-reads b)

pub sum-reads : (f : ℕ → ℤ) (F : ℕ → Below (2 ^ 64)) (t n : ℕ) → ((i : ℕ) → Reads (f i) (F i) t) → Reads (sum_over integers f n) (sum_over voice_group F n) (n * t)
sum-reads f F t zero each = record { means = means-zero; small = omega (arith, zero-mul t) }
sum-reads f F t (suc n) each =
    let more = add-reads (sum-reads f F t n each) (each n) in
    record { means = more.means; small = omega (arith, more.small, suc-mul n t) }

-- the crossings of a label that a label of small whole numbers means
module _ (d : List ℕ → ℤ) (D : List ℕ → Below (2 ^ 64)) (t z m : ℕ) (label : (w : List ℕ) → Reads (d w) (D w) t) where
  pub crossing-reads : (v : List ℕ) → Reads (crossing integers d z m v) (crossing voice_group D z m v) ((m - 1) * t)
  crossing-reads v =
      let at : ℕ → List ℕ = λ j. repeated z (m - 1 - j) ++ take (suc j) v in
      neg-reads (sum-reads (λ j. d (at j)) (λ j. D (at j)) t (m - 1) (λ j. label (at j)))

  -- what crosses at a word's first letters less what crosses at its last
  pub crossed-reads : (w : List ℕ) →
      Reads (minus integers (crossing integers d z m (take (m - 1) w)) (crossing integers d z m (drop 1 w)))
      (minus voice_group (crossing voice_group D z m (take (m - 1) w)) (crossing voice_group D z m (drop 1 w))) ((m - 1) * t + (m - 1) * t)
  crossed-reads w = minus-reads (crossing-reads (take (m - 1) w)) (crossing-reads (drop 1 w))

-- a list's charges read as whole numbers, where they are small
pub whole-reads : (d : Weights (Below (2 ^ 64))) (t : ℕ) (w : List ℕ) → nat_abs (signed (weight voice_group d w)) ≤ t →
    Reads (weight integers (whole d) w) (weight voice_group d w) t
whole-reads d t w h =
    let read : weight integers (whole d) w ≡ signed (weight voice_group d w) = get_or-map signed d.charges (code d.q w) voice_group.zero in
    record {
      means = ap voice_means read ∙ means-signed (weight voice_group d w);
      small = subst (λ x. nat_abs x ≤ t) (sym read) h;
    }

module _ (d : Weights (Below (2 ^ 64))) (range : InRange d) where
  weight-reads : (w : List ℕ) → Reads (weight integers (whole d) w) (weight voice_group d w) voices_end
  weight-reads w = whole-reads d voices_end w (entry_small (weight voice_group d w) (range (code d.q w)))

  pub total-reads : (c : List ℕ) → Reads (total integers (whole d) c) (total voice_group d c) (length c * voices_end)
  total-reads c =
      sum-reads (site integers booking_offset (whole d) c) (site voice_group booking_offset d c) voices_end (length c)
      (λ i. weight-reads (window d.k (cell c) (before (length c) booking_offset i)))

-- the size that no charge of a label exceeds: it is a difference of two
abbrev pub label_end : ℕ
label_end = voices_end + voices_end

pub rule_label-reads : (r : Local) (d : Weights (Below (2 ^ 64))) → InRange d → (w : List ℕ) →
    Reads (rule_label integers r (whole d) w) (rule_label voice_group r d w) label_end
rule_label-reads r d range w = minus-reads (weight-reads d range (next_letters r d.k w)) (weight-reads d range (take d.k (drop r.l w)))

pub two_label-reads : (d e : Weights (Below (2 ^ 64))) → InRange d → InRange e → (w : List ℕ) →
    Reads (two_label integers (whole d) (whole e) w) (two_label voice_group d e w) label_end
two_label-reads d e range range' w = minus-reads (weight-reads d range (take d.k w)) (weight-reads e range' (take e.k w))
