-- The lines of a text. Assumes nothing.
use Rattle.std.specs.Prelude.{ℕ, cond, List, [], ◌∷◌, Some, None, Option, ◌==◌}
use Rattle.console.specs.Cutting.{newline}
use Rattle.console.specs.declared.cutting.Split.{Split}

-- a byte at the head of the first of some lines
abbrev pub on_first : ℕ → List (List ℕ) → List (List ℕ)
on_first b [] = (b ∷ []) ∷ []
on_first b (l ∷ ls) = (b ∷ l) ∷ ls

-- the lines of a text, without the bytes that end them
abbrev pub lines : List ℕ → List (List ℕ)
lines [] = []
lines (b ∷ bs) = cond (b == newline) ([] ∷ lines bs) (on_first b (lines bs))

-- the lines of a text that was cut after its first line, if it has one
abbrev pub cut_lines : Option Split → List (List ℕ)
cut_lines None = []
cut_lines (Some s) = s.leading.now ∷ lines s.past.now
