-- What a kind of charge means: a commutative group. Assumes nothing.
use Rattle.std.specs.Prelude.{◌≡◌, ℕ, zero, suc, Bool, Decides}

-- A commutative group: sums may be bracketed in any way and taken in either order, zero adds nothing,
-- and an element plus its opposite is zero.
pub record Group : Type 1 where
  pub Carrier : Type 0
  pub zero : Carrier
  pub add : Carrier → Carrier → Carrier
  pub neg : Carrier → Carrier
  pub assoc : (x y z : Carrier) → add (add x y) z ≡ add x (add y z)
  pub comm : (x y : Carrier) → add x y ≡ add y x
  pub unit : (x : Carrier) → add zero x ≡ x
  pub cancel : (x : Carrier) → add x (neg x) ≡ zero

abbrev pub minus : (G : Group) → G.Carrier → G.Carrier → G.Carrier
minus G x y = G.add x (G.neg y)

-- f 0 + .. + f (n - 1)
abbrev pub sum_over : (G : Group) → (ℕ → G.Carrier) → ℕ → G.Carrier
sum_over G f zero = G.zero
sum_over G f (suc n) = G.add (sum_over G f n) (f n)

-- A kind of charge: the group, what each charge means there, whether two meanings are the same, and which
-- charges may be entries of a density: two charges with one meaning may differ in that.
pub record Kind (C : Type 0) : Type 1 where
  pub group : Group
  pub means : C → group.Carrier
  pub same : group.Carrier → group.Carrier → Bool
  pub decides : (x y : group.Carrier) → Decides (same x y) (x ≡ y)
  pub entry : C → Bool
