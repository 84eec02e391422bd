-- Lines and words of a text. Assumes nothing.
use Rattle.std.specs.Prelude.{ℕ, ◌+◌, Bool, cond, not, ◌||◌, List, [], ◌∷◌, take, drop, Some, None, Option, ◌==◌}
use Rattle.std.specs.List.{prefix_len}
use Rattle.console.specs.declared.cutting.Class.{Class}
use Rattle.console.specs.declared.cutting.Class.TheVariants.{Blank, NotBlank, NotNewline, NotColon, NotHash}
use Rattle.console.specs.declared.cutting.Split.{Split}
use Rattle.console.specs.declared.cutting.LineWords.{LineWords}

-- the byte that ends a line
abbrev pub newline : ℕ
newline = 10

-- a space, a tab or a carriage return
abbrev pub blank : ℕ → Bool
blank b = b == 32 || (b == 9 || b == 13)

-- the bytes of a class
abbrev pub belongs : Class → ℕ → Bool
belongs Blank b = blank b
belongs NotBlank b = not (blank b)
belongs NotNewline b = not (b == newline)
belongs NotColon b = not (b == 58)
belongs NotHash b = not (b == 35)

-- the longest front of a text whose bytes are all of a class, and the text past it
abbrev pub leading : Class → List ℕ → List ℕ
leading class bs = take (prefix_len (belongs class) bs) bs

abbrev pub past : Class → List ℕ → List ℕ
past class bs = drop (prefix_len (belongs class) bs) bs

-- a word before others, unless it is empty
abbrev pub with_first : List ℕ → List (List ℕ) → List (List ℕ)
with_first [] ws = ws
with_first (b ∷ bs) ws = (b ∷ bs) ∷ ws

-- the word that a line begins with, which is empty before a blank and at the line's end, and the words after it
abbrev pub first_and_others : List ℕ → List ℕ × List (List ℕ)
first_and_others [] = ([], [])
first_and_others (b ∷ bs) =
    cond (blank b)
    ([], with_first (first_and_others bs).0 (first_and_others bs).1)
    (b ∷ (first_and_others bs).0, (first_and_others bs).1)

-- the words of a line, which blanks keep apart
unfoldable pub words : List ℕ → List (List ℕ)
words bs = with_first (first_and_others bs).0 (first_and_others bs).1

-- the words that are left of a line
abbrev pub words_left : LineWords → List (List ℕ)
words_left ws = words ws.line.now

-- the words of a line that was split after its first word, if it has one
abbrev pub rejoined : Option Split → List (List ℕ)
rejoined None = []
rejoined (Some s) = s.leading.now ∷ words s.past.now

-- A place in a text: how many lines end before it, and the text from there on.
pub record TextPlace : Type 0 where
  pub passed : ℕ
  pub text : List ℕ

-- the place of the next word, or of the text's end
abbrev pub next_word : ℕ → List ℕ → TextPlace
next_word n [] = record { passed = n; text = [] }
next_word n (b ∷ bs) =
    cond (b == newline)
    (next_word (n + 1) bs)
    (cond (blank b) (next_word n bs) (record { passed = n; text = b ∷ bs }))
