-- How many words a label has. Assumes nothing.
use Rattle.std.proofs.Common.{◌≡◌, ℕ, suc, ◌-◌, ◌*◌, ◌^◌, ◌<◌, ◌≤◌, sym, ap, ◌∙◌, subst, ap₂, le_trans, mul-le-mul_right, pow-suc, arith}
use native.Mathlib.Nat.{pow-le-pow_right}
use Rattle.criterion.specs.Labelled.{LabelList, Labelled}

module _ {A : Type 0} (d : LabelList A) (labelled : Labelled d) where
  pub some-letters : 0 < d.q
  some-letters = omega (arith, labelled.sizes.0)

  pub one_more : suc (d.m - 1) ≡ d.m
  one_more = omega (arith, labelled.sizes.2)

  -- a word is its first m - 1 letters and one more
  pub heads-words : d.q ^ (d.m - 1) * d.q ≡ d.q ^ d.m
  heads-words = sym (pow-suc d.q (d.m - 1)) ∙ ap (λ n. d.q ^ n) one_more

  pub heads-few : d.q ^ (d.m - 1) ≤ 4096
  heads-few =
      let shorter : d.m - 1 ≤ d.m = omega arith in
      le_trans (pow-le-pow_right some-letters shorter) labelled.few

  -- the power that is computed fits
  pub heads_fit : (q m : ℕ) → q ≡ d.q → m ≡ d.m → q ^ (m - 1) < 2 ^ 64
  heads_fit q m same-q same-m =
      let equal : q ^ (m - 1) ≡ d.q ^ (d.m - 1) = ap₂ (λ a b. a ^ (b - 1)) same-q same-m in
      omega (arith, heads-few)

  -- the code of a word, and a head past the last
  pub code-within : (c heads q : ℕ) → heads ≡ d.q ^ (d.m - 1) → q ≡ d.q → c < heads * q → c < d.q ^ d.m
  code-within c heads q count same-q h = subst (λ n. c < n) (ap₂ ◌*◌ count same-q ∙ heads-words) h

  pub heads-past : (head : ℕ) → d.q ^ (d.m - 1) ≤ head → d.q ^ d.m ≤ head * d.q
  heads-past head h = subst (λ n. n ≤ head * d.q) heads-words (mul-le-mul_right d.q h)
