-- One row more. Assumes nothing.
use Rattle.std.proofs.Common.{◌≡◌, ℕ, suc, ◌+◌, ◌<◌, List, [], ◌∷◌, ◌++◌, length, get_or, take, sym, ap, ◌∙◌, append_assoc, append-nil, add-zero, zero-add, arith}
use Rattle.std.proofs.lemmas.List.{take_more, length-take-le}
use Rattle.report.specs.Texts.{rows_text}

module _ {X : Type 0} (row : ℕ → X → List ℕ) where
  rows_push : (s : ℕ) (xs : List X) (x : X) → rows_text row s (xs ++ (x ∷ [])) ≡ rows_text row s xs ++ row (s + length xs) x
  rows_push s [] x = append-nil (row s x) ∙ ap (λ (k : ℕ). row k x) (sym (add-zero s))
  rows_push s (y ∷ xs) x =
      let e : suc s + length xs ≡ s + suc (length xs) = omega arith in
      ap (λ (t : List ℕ). row s y ++ t) (rows_push (suc s) xs x ∙ ap (λ (k : ℕ). rows_text row (suc s) xs ++ row k x) e)
      ∙ sym (append_assoc (row s y) (rows_text row (suc s) xs) (row (s + suc (length xs)) x))

  -- a text grows by the row of the next word
  pub rows_grow : (xs : List X) (i : ℕ) (x : X) → i < length xs → x ≡ get_or xs i x → (old new : List ℕ)
      → old ≡ rows_text row 0 (take i xs) → new ≡ old ++ row i x → new ≡ rows_text row 0 (take (i + 1) xs)
  rows_grow xs i x h here old new was is =
      let k : 0 + length (take i xs) ≡ i = zero-add (length (take i xs)) ∙ length-take-le i xs (omega arith) in
      is ∙ (ap (λ (t : List ℕ). t ++ row i x) was
      ∙ (ap (λ (n : ℕ). rows_text row 0 (take i xs) ++ row n x) (sym k)
      ∙ (sym (rows_push 0 (take i xs) x)
      ∙ (ap (λ (y : X). rows_text row 0 (take i xs ++ (y ∷ []))) here ∙ ap (rows_text row 0) (sym (take_more xs i x h))))))
