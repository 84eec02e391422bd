-- The ring of a word and then letters z, and its windows. Assumes nothing.
use Rattle.std.proofs.Common.{◌≡◌, ℕ, zero, suc, ◌+◌, ◌-◌, ◌*◌, ◌<◌, ◌≤◌, List, [], ◌∷◌, ◌++◌, length, get_or, take, drop, sym, refl, ap, ◌∙◌, ap₂, add-zero, suc-add, arith, length-append, length-drop}
use lib.ListN.{length-replicate}
use Rattle.std.proofs.lemmas.List.{get_or_past, get_or_default}
use Rattle.automaton.specs.Words.{Word, repeated, window, cell}
use Rattle.automaton.proofs.Rings.{window_same, window-append, window_turn, cell_turn, cell_inside, letters-append, letters-drop, letters-repeated}
use Rattle.criterion.specs.Balance.{ring_a, ring_b}

-- a window without its first letter
pub window_rest : (m : ℕ) → 1 ≤ m → (s : ℕ → ℕ) (i : ℕ) → drop 1 (window m s i) ≡ window (m - 1) s (suc i)
window_rest m long s i = let one_more : m ≡ suc (m - 1) = omega arith in ap (λ n. drop 1 (window n s i)) one_more

module _ (z : ℕ) where
  -- letter i of v, and z past its end
  abbrev pub place : List ℕ → ℕ → ℕ
  place v i = get_or v i z

  -- letters z at the end are what stands past the end
  place_pad : (v : List ℕ) (n i : ℕ) → place (v ++ repeated z n) i ≡ place v i
  place_pad [] zero i = refl
  place_pad [] (suc n) zero = refl
  place_pad [] (suc n) (suc i) = place_pad [] n i
  place_pad (x ∷ v) n zero = refl
  place_pad (x ∷ v) n (suc i) = place_pad v n i

  window-repeated : (m : ℕ) (s : ℕ → ℕ) (i : ℕ) → ((t : ℕ) → t < m → s (i + t) ≡ z) → window m s i ≡ repeated z m
  window-repeated zero s i e = refl
  window-repeated (suc m) s i e =
      ap₂ ◌∷◌ (ap s (sym (add-zero i)) ∙ e 0 (omega arith)) (window-repeated m s (suc i) (λ t h. ap s (omega arith) ∙ e (suc t) (omega arith)))

  pub window_tail : (m x : ℕ) (v : List ℕ) (i : ℕ) → window m (place (x ∷ v)) (suc i) ≡ window m (place v) i
  window_tail m x v i = window_same m (place (x ∷ v)) (place v) (suc i) i (λ t _. ap (place (x ∷ v)) (suc-add i t))

  pub window-take : (n : ℕ) (v : List ℕ) → n ≤ length v → window n (place v) 0 ≡ take n v
  window-take zero v h = refl
  window-take (suc n) [] h = absurd (omega arith)
  window-take (suc n) (x ∷ v) h = ap (λ t. x ∷ t) (window_tail n x v 0 ∙ window-take n v (omega arith))

  pub length_pad : (v : List ℕ) (n : ℕ) → length (v ++ repeated z n) ≡ length v + n
  length_pad v n = length-append v (repeated z n) ∙ ap (λ k. length v + k) (length-replicate n z)

  -- the ring of v and then m - 1 letters z
  module _ (v : List ℕ) (m : ℕ) (long : 1 ≤ m) (fits : m - 1 ≤ length v) where
    abbrev padded : List ℕ
    padded = v ++ repeated z (m - 1)

    pad_inside : (i : ℕ) → i < length v + (m - 1) → cell padded i ≡ place v i
    pad_inside i h =
        cell_inside padded i (omega (arith, length_pad v (m - 1)))
        ∙ get_or_default padded i 0 z (omega (arith, length_pad v (m - 1)))
        ∙ place_pad v (m - 1) i

    -- the windows that begin in v
    pub pad-first : (i : ℕ) → i < length v → window m (cell padded) i ≡ window m (place v) i
    pad-first i h = window_same m (cell padded) (place v) i i (λ t l. pad_inside (i + t) (omega arith))

    -- the windows that begin after v
    pub pad_last : (j : ℕ) → j < m - 1 → window m (cell padded) (length v + j) ≡ repeated z (m - 1 - j) ++ take (suc j) v
    pad_last j h =
        let s : ℕ → ℕ = cell padded in
        let size : m ≡ (m - 1 - j) + suc j = omega arith in
        let round : length v + j + (m - 1 - j) ≡ 0 + length padded = omega (arith, length_pad v (m - 1)) in
        ap (λ n. window n s (length v + j)) size
        ∙ window-append (m - 1 - j) (suc j) s (length v + j)
        ∙ ap₂ ◌++◌
        (window-repeated (m - 1 - j) s (length v + j)
        (λ t l. pad_inside (length v + j + t) (omega arith) ∙ get_or_past v (length v + j + t) z (omega arith)))
        (ap (window (suc j) s) round
        ∙ window_turn (suc j) s (length padded) (cell_turn padded) 0
        ∙ window_same (suc j) s (place v) 0 0 (λ t l. pad_inside (0 + t) (omega arith))
        ∙ window-take (suc j) v (omega arith))

  pub word_a : (q m : ℕ) (w : List ℕ) → z < q → 1 ≤ m → Word q m w → Word q (2 * m - 1) (ring_a z m w)
  word_a q m w some long word =
      (omega (arith, length_pad w (m - 1)), letters-append q w (repeated z (m - 1)) word.1 (letters-repeated q z (m - 1) some))

  pub word_b : (q m : ℕ) (w : List ℕ) → z < q → 1 ≤ m → Word q m w → Word q (2 * m - 2) (ring_b z m w)
  word_b q m w some long word =
      let a = word_a q m w some long word in
      (omega (arith, length-drop 1 (ring_a z m w), a.0), letters-drop q 1 (ring_a z m w) a.1)
