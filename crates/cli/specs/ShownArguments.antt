-- Words of the arguments: which are UTF-8, and how they are shown. Assumes nothing.
use Rattle.std.specs.Prelude.{ℕ, ◌+◌, ◌/◌, ◌%◌, Bool, true, cond, not, ◌&&◌, List, [], ◌∷◌, ◌++◌, length, codes, ◌==◌, nat_le, nat_lt}
use Rattle.std.specs.List.{flat_map}
use Rattle.std.specs.Str.Lossy.{utf8_valid_len}

-- all of a word is UTF-8
abbrev pub is_utf8 : List ℕ → Bool
is_utf8 w = utf8_valid_len w == length w

-- a word has no control character, such as the end of a line
abbrev pub no_controls : List ℕ → Bool
no_controls [] = true
no_controls (b ∷ bs) = (nat_le 32 b && not (b == 127)) && no_controls bs

abbrev pub hex_digit : ℕ → ℕ
hex_digit d = cond (nat_lt d 10) (48 + d) (87 + d)

-- a byte that is no printable sign of ASCII is shown as \x and two digits
abbrev pub byte_text : ℕ → List ℕ
byte_text b = cond (nat_le 32 b && nat_lt b 127) (b ∷ []) (codes "\\x" ++ (hex_digit (b / 16) ∷ (hex_digit (b % 16) ∷ [])))

abbrev pub bytes_text : List ℕ → List ℕ
bytes_text w = flat_map byte_text w

-- a word as it is shown in a line: as it is, or byte by byte where that would be no line of text
abbrev pub shown_argument : List ℕ → List ℕ
shown_argument [] = codes "''"
shown_argument (b ∷ bs) = cond (is_utf8 (b ∷ bs) && no_controls (b ∷ bs)) (b ∷ bs) (bytes_text (b ∷ bs))
