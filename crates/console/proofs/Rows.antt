-- One item more of a row. Assumes nothing.
use Rattle.std.proofs.Common.{◌≡◌, ℕ, ◌+◌, ◌<◌, ◌≤◌, List, [], ◌∷◌, ◌++◌, length, get_or, take, sym, ap, ◌∙◌}
use Rattle.std.proofs.lemmas.List.{take_more, flat_map_more, take_all}
use Rattle.console.specs.Pages.{spaced}

module _ {X : Type 0} (shows : X → List ℕ) (xs : List X) (i : ℕ) where
  pub spaced_more : (x : X) → i < length xs → x ≡ get_or xs i x → spaced shows (take (i + 1) xs) ≡ spaced shows (take i xs) ++ (32 ∷ shows x)
  spaced_more x within is = ap (spaced shows) (take_more xs i x within) ∙ rw (sym is) (sym (flat_map_more (λ y. 32 ∷ shows y) [] (take i xs) x))

  pub spaced_all : length xs ≤ i → spaced shows (take i xs) ≡ spaced shows xs
  spaced_all h = ap (spaced shows) (take_all i xs h)
