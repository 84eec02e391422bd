-- Whole numbers modulo n, and bits under exclusive or, as groups. Assumes nothing.
use Rattle.std.specs.Prelude.{◌≡◌, ℕ, ◌+◌, ◌-◌, ◌%◌, ◌^◌, ◌<◌, Bool, true, false, ◌&&◌, Decides, ◌==◌, bit_xor, refl}
use Rattle.std.proofs.Common.{sym, ap, ◌∙◌, mod-lt, mod-eq_of_lt, add_assoc, add_comm, zero-add, arith, eq-eqb, pow_pos}
use Rattle.std.proofs.lemmas.Bool.{false≢true}
use mathlib.Core.HLevel.{is_prop→PathP}
use Rattle.std.proofs.Math.Nat.{mod_self, mod-add-mod, add-mod-mod, zero-mod}
use Rattle.std.proofs.Math.Bridge.{le_prop}
use Rattle.std.specs.Int.Bits.{xor_zero_l, xor_assoc, xor_self}
use Rattle.std.proofs.lemmas.Nat.{xor_comm, xor_lt}
use store.Seg.{eqb→≡}
use Rattle.charge.specs.Groups.{Group}

-- a number below n
pub record Below (n : ℕ) : Type 0 where
  pub value : ℕ
  pub less : value < n

pub below_eq : {n : ℕ} (a b : Below n) → a.value ≡ b.value → a ≡ b
below_eq {n} a b e = λ i. record { value = e i; less = is_prop→PathP (λ j. e j < n) (λ j. le_prop) a.less b.less i }

-- the test of equality of two such numbers
abbrev pub same_below : {n : ℕ} → Below n → Below n → Bool
same_below a b = a.value == b.value

pub decides_below : {n : ℕ} (a b : Below n) → Decides (same_below a b) (a ≡ b)
decides_below a b = (λ t. below_eq a b (eqb→≡ a.value b.value t), λ e. eq-eqb a.value b.value (ap (λ x. x.value) e))

module _ (n : ℕ) (some : 0 < n) where
  abbrev pub residue : ℕ → Below n
  residue k = record { value = k % n; less = mod-lt k some }

  abbrev pub sum_mod : Below n → Below n → Below n
  sum_mod a b = residue (a.value + b.value)

  abbrev pub opposite_mod : Below n → Below n
  opposite_mod a = residue (n - a.value)

  -- the whole numbers modulo n
  abbrev pub modular : Group
  modular = record {
    Carrier = Below n;
    zero = residue 0;
    add = sum_mod;
    neg = opposite_mod;
    assoc = λ x y z. below_eq _ _ (mod-add-mod (x.value + y.value) n z.value ∙ ap (λ (k : ℕ). k % n) (add_assoc x.value y.value z.value) ∙ sym (add-mod-mod x.value (y.value + z.value) n));
    comm = λ x y. below_eq _ _ (ap (λ (k : ℕ). k % n) (add_comm x.value y.value));
    unit = λ x. below_eq _ _ (mod-add-mod 0 n x.value ∙ ap (λ (k : ℕ). k % n) (zero-add x.value) ∙ mod-eq_of_lt x.less);
    cancel = λ x. below_eq _ _ (add-mod-mod x.value (n - x.value) n ∙ ap (λ (k : ℕ). k % n) (let h = x.less in let e : x.value + (n - x.value) ≡ n = omega arith in e) ∙ mod_self n ∙ sym (zero-mod n));
  }

module _ (k : ℕ) where
  abbrev pub xor_below : Below (2 ^ k) → Below (2 ^ k) → Below (2 ^ k)
  xor_below a b = record { value = bit_xor a.value b.value; less = xor_lt k a.value b.value a.less b.less }

  -- words of k bits under exclusive or
  abbrev pub xors : Group
  xors = record {
    Carrier = Below (2 ^ k);
    zero = residue (2 ^ k) (pow_pos k) 0;
    add = xor_below;
    neg = λ x. x;
    assoc = λ x y z. below_eq _ _ (xor_assoc x.value y.value z.value);
    comm = λ x y. below_eq _ _ (xor_comm x.value y.value);
    unit = λ x. below_eq _ _ (ap (λ (z : ℕ). bit_xor z x.value) (zero-mod (2 ^ k)) ∙ xor_zero_l x.value);
    cancel = λ x. below_eq _ _ (xor_self x.value ∙ sym (zero-mod (2 ^ k)));
  }

-- a pair of groups, each part by itself
abbrev pub pairs : Group → Group → Group
pairs G H = record {
  Carrier = G.Carrier × H.Carrier;
  zero = (G.zero, H.zero);
  add = λ x y. (G.add x.0 y.0, H.add x.1 y.1);
  neg = λ x. (G.neg x.0, H.neg x.1);
  assoc = λ x y z i. (G.assoc x.0 y.0 z.0 i, H.assoc x.1 y.1 z.1 i);
  comm = λ x y i. (G.comm x.0 y.0 i, H.comm x.1 y.1 i);
  unit = λ x i. (G.unit x.0 i, H.unit x.1 i);
  cancel = λ x i. (G.cancel x.0 i, H.cancel x.1 i);
}

abbrev pub same_pair : {A B : Type 0} → (A → A → Bool) → (B → B → Bool) → A × B → A × B → Bool
same_pair f g x y = f x.0 y.0 && g x.1 y.1

pub decides_pair : {A B : Type 0} (f : A → A → Bool) (g : B → B → Bool) → ((x y : A) → Decides (f x y) (x ≡ y)) → ((x y : B) → Decides (g x y) (x ≡ y)) →
    (x y : A × B) → Decides (same_pair f g x y) (x ≡ y)
decides_pair f g F G x y = both (f x.0 y.0) (g x.1 y.1) (F x.0 y.0) (G x.1 y.1)
  where
    both : (s t : Bool) → Decides s (x.0 ≡ y.0) → Decides t (x.1 ≡ y.1) → Decides (s && t) (x ≡ y)
    both true t F G = (λ h i. (F.0 refl i, G.0 h i), λ e. G.1 (ap (λ p. p.1) e))
    both false t F G = (λ h. absurd (false≢true h), λ e. F.1 (ap (λ p. p.0) e))
