-- A word of some words by its index. Assumes nothing.
use Rattle.std.proofs.Common.{◌≡◌, ℕ, zero, suc, ◌<◌, ◌≤◌, List, [], ◌∷◌, map, length, get_or, Some, None, refl, ap, arith}
use Rattle.cli.specs.Commands.{word_at}

module _ {V : Type 0} (f : V → List ℕ) where
  pub word-some : (ws : List V) (i : ℕ) (v : V) → i < length ws → v ≡ get_or ws i v → Some (f v) ≡ word_at i (map f ws)
  word-some [] i v h e = absurd (omega (arith, h))
  word-some (w ∷ ws) zero v h e = ap (λ (x : V). Some (f x)) e
  word-some (w ∷ ws) (suc i) v h e = word-some ws i v (omega (arith, h)) e

  pub word-none : (ws : List V) (i : ℕ) → length ws ≤ i → None ≡ word_at i (map f ws)
  word-none [] i h = refl
  word-none (w ∷ ws) zero h = absurd (omega (arith, h))
  word-none (w ∷ ws) (suc i) h = word-none ws i (omega (arith, h))
