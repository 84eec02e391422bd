-- A text cut after its first line. Assumes nothing.
use Rattle.std.proofs.Common.{◌≡◌, ℕ, true, false, eqb, List, [], ◌∷◌, length, drop, refl, ap, ◌∙◌, ⊎_elim, one-add, ◌<◌, arith}
use Rattle.std.proofs.lemmas.Bool.{cases_Bool}
use Rattle.std.proofs.lemmas.List.{nil_from_length}
use Rattle.console.specs.Cutting.{newline, leading, past}
use Rattle.console.specs.declared.cutting.Class.TheVariants.{NotNewline}
use Rattle.cli.specs.Lines.{on_first, lines}

-- the first line, and the lines after the byte that ends it
abbrev cut_once : List ℕ → List (List ℕ)
cut_once bs = leading NotNewline bs ∷ lines (drop 1 (past NotNewline bs))

module _ (b : ℕ) (bs : List ℕ) where
  at-newline : eqb b newline ≡ true → lines (b ∷ bs) ≡ cut_once (b ∷ bs)
  at-newline e = rw e

  in-line : eqb b newline ≡ false → on_first b (lines bs) ≡ (b ∷ leading NotNewline bs) ∷ lines (drop 1 (past NotNewline bs)) → lines (b ∷ bs) ≡ cut_once (b ∷ bs)
  in-line e h = rw (e, one-add) h

cut-some : (b : ℕ) (bs : List ℕ) → lines (b ∷ bs) ≡ cut_once (b ∷ bs)
cut-some b [] = ⊎_elim (at-newline b []) (λ e. in-line b [] e refl) (cases_Bool (eqb b newline))
cut-some b (c ∷ bs) = ⊎_elim (at-newline b (c ∷ bs)) (λ e. in-line b (c ∷ bs) e (ap (on_first b) (cut-some c bs))) (cases_Bool (eqb b newline))

pub line_cut : (bs : List ℕ) → (length bs ≡ 0 → ⊥) → lines bs ≡ cut_once bs
line_cut [] h = absurd (h refl)
line_cut (b ∷ bs) h = cut-some b bs

-- the rest of a line that was cut begins with the byte that ends it, or is empty
module _ (bs f r : List ℕ) (some : length bs ≡ 0 → ⊥) (front_is : f ≡ leading NotNewline bs) (rest_is : r ≡ past NotNewline bs) where
  pub line_ended : lines bs ≡ f ∷ lines (drop 1 r)
  line_ended = line_cut bs some ∙ rw (front_is, rest_is)

  pub line_last : length r < 1 → lines bs ≡ f ∷ lines r
  line_last h = line_ended ∙ rw (nil_from_length r (omega (arith, h)))
