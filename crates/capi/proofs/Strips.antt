-- Strips that are written from the front, one item at a time. Assumes nothing.
use Rattle.std.proofs.Common.{◌≡◌, ℕ, ◌+◌, ◌<◌, List, [], ◌∷◌, ◌++◌, map, length, get_or, take, set, sym, ap, ◌∙◌}
use Rattle.std.proofs.lemmas.List.{map_push, take_more, take_more_set, take-map}

-- one item more
pub front-more : {X Y : Type 0} (f : X → Y) (xs : List X) (strip : List Y) (i : ℕ) (x : X) (y : Y) → i < length xs → i < length strip
    → take i strip ≡ take i (map f xs) → y ≡ f (get_or xs i x) → take (i + 1) (set strip i y) ≡ take (i + 1) (map f xs)
front-more f xs strip i x y here there so_far is =
    take_more_set strip i y there
    ∙ (λ j. so_far j ++ (is j ∷ []))
    ∙ sym (take-map f (i + 1) xs ∙ ap (map f) (take_more xs i x here) ∙ map_push f (take i xs) (get_or xs i x) ∙ ap (λ t. t ++ (f (get_or xs i x) ∷ [])) (sym (take-map f i xs)))
