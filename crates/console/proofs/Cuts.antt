-- The words of a line, one after another. Assumes nothing.
use Rattle.std.proofs.Common.{◌≡◌, ℕ, ◌<◌, true, false, List, [], ◌∷◌, length, sym, refl, ap, ◌∙◌, ⊎_elim, one-add, arith, length-drop, length-take}
use Rattle.std.proofs.lemmas.Bool.{cases_Bool, not_from_true, not_from_false}
use Rattle.std.specs.List.{prefix_len}
use Rattle.console.specs.Cutting.{blank, belongs, leading, past, with_first, first_and_others, words}
use Rattle.console.specs.declared.cutting.Class.{Class}
use Rattle.console.specs.declared.cutting.Class.TheVariants.{Blank, NotBlank}

-- a byte more in front, or the end of the front
module _ (class : Class) (b : ℕ) (bs : List ℕ) where
  pub leading_more : belongs class b ≡ true → leading class (b ∷ bs) ≡ b ∷ leading class bs
  leading_more e = rw (e, one-add)

  pub past_more : belongs class b ≡ true → past class (b ∷ bs) ≡ past class bs
  past_more e = rw (e, one-add)

  pub leading_ends : belongs class b ≡ false → leading class (b ∷ bs) ≡ []
  leading_ends e = rw e

  pub past_ends : belongs class b ≡ false → past class (b ∷ bs) ≡ b ∷ bs
  past_ends e = rw e

-- blanks before a line's words do not matter
pub words-past-blank : (b : ℕ) (bs : List ℕ) → blank b ≡ true → words (b ∷ bs) ≡ words bs
unfolding words
words-past-blank b bs e = rw e

pub words-past_blanks : (bs : List ℕ) → words bs ≡ words (past Blank bs)
words-past_blanks [] = refl
words-past_blanks (b ∷ bs) =
    ⊎_elim
    (λ e. words-past-blank b bs e ∙ (words-past_blanks bs ∙ ap words (sym (past_more Blank b bs e))))
    (λ e. ap words (sym (past_ends Blank b bs e)))
    (cases_Bool (blank b))

first_split : (bs : List ℕ) → first_and_others bs ≡ (leading NotBlank bs, words (past NotBlank bs))
unfolding words
first_split [] = refl
first_split (b ∷ bs) =
    ⊎_elim
    (λ e. rw (e, leading_ends NotBlank b bs (not_from_true (blank b) e), past_ends NotBlank b bs (not_from_true (blank b) e), e))
    (λ e. rw (e, first_split bs, leading_more NotBlank b bs (not_from_false (blank b) e), past_more NotBlank b bs (not_from_false (blank b) e), e))
    (cases_Bool (blank b))

-- the first word, and the words after it
pub words_split : (bs : List ℕ) → words bs ≡ with_first (leading NotBlank (past Blank bs)) (words (past NotBlank (past Blank bs)))
unfolding words
words_split bs = words-past_blanks bs ∙ ap (λ (p : List ℕ × List (List ℕ)). with_first p.0 p.1) (first_split (past Blank bs))

-- an empty front past the blanks is the end of the line
pub words_none : (bs : List ℕ) → length (leading NotBlank (past Blank bs)) ≡ 0 → words bs ≡ []
unfolding words
words_none [] h = refl
words_none (b ∷ bs) h =
    ⊎_elim
    (λ e. words-past-blank b bs e ∙ words_none bs (rw (past_more Blank b bs e) at h))
    (λ e. let k = rw (past_ends Blank b bs e, leading_more NotBlank b bs (not_from_false (blank b) e)) at h in absurd (omega arith))
    (cases_Bool (blank b))

with-first-some : (w : List ℕ) (ws : List (List ℕ)) → (length w ≡ 0 → ⊥) → with_first w ws ≡ w ∷ ws
with-first-some [] ws h = absurd (h refl)
with-first-some (b ∷ bs) ws h = refl

module _ (bs : List ℕ) (some : length (leading NotBlank (past Blank bs)) ≡ 0 → ⊥) where
  pub words-some : words bs ≡ leading NotBlank (past Blank bs) ∷ words (past NotBlank (past Blank bs))
  words-some = words_split bs ∙ with-first-some (leading NotBlank (past Blank bs)) (words (past NotBlank (past Blank bs))) some

  pub words_shorter : length (past NotBlank (past Blank bs)) < length bs
  words_shorter =
      let n = prefix_len (belongs Blank) bs in
      let m = prefix_len (belongs NotBlank) (past Blank bs) in
      omega (arith, length-take m (past Blank bs), length-drop m (past Blank bs), length-drop n bs)
