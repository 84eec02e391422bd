-- The next word of a text, past blanks and the ends of lines. Assumes nothing.
use Rattle.std.proofs.Common.{◌≡◌, ℕ, ◌+◌, ◌-◌, ◌<◌, ◌≤◌, true, false, List, [], length, get_or, take, drop, ◌∙◌, eq-eqb, ne_eqb}
use Rattle.std.proofs.lemmas.List.{at_drop_more, at_drop_all, drop_more, take_rest}
use Rattle.console.specs.Cutting.{newline, blank, next_word}

-- the byte at i, after n ends of lines
module _ (n : ℕ) (bs : List ℕ) (i : ℕ) (within : i < length bs) where
  pub past-newline : get_or bs i 0 ≡ newline → next_word n (drop i bs) ≡ next_word (n + 1) (drop (i + 1) bs)
  past-newline e = at_drop_more (next_word n) bs i 0 within ∙ rw (eq-eqb (get_or bs i 0) newline e)

  module _ (other : get_or bs i 0 ≡ newline → ⊥) where
    pub past-blank : blank (get_or bs i 0) ≡ true → next_word n (drop i bs) ≡ next_word n (drop (i + 1) bs)
    past-blank e = at_drop_more (next_word n) bs i 0 within ∙ rw (ne_eqb (get_or bs i 0) newline other, e)

    pub at-word : blank (get_or bs i 0) ≡ false → next_word n (drop i bs) ≡ record { passed = n; text = take (length bs - i) (drop i bs) }
    at-word e = at_drop_more (next_word n) bs i 0 within ∙ rw (ne_eqb (get_or bs i 0) newline other, e, take_rest, drop_more bs i 0 within)

pub at_end : (n : ℕ) (bs : List ℕ) (i : ℕ) → length bs ≤ i → next_word n (drop i bs) ≡ record { passed = n; text = [] }
at_end n bs i h = at_drop_all (next_word n) bs i h
