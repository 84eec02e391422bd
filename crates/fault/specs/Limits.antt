-- The limits that presets and rings are held to. Assumes nothing.
use Rattle.std.specs.Prelude.{ℕ, suc, ◌^◌, Bool, cond, ◌&&◌, Some, None, Option, nat_le, nat_lt}

-- an alphabet has 2 to 8 letters
abbrev pub least_letters : ℕ
least_letters = 2

abbrev pub most_letters : ℕ
most_letters = 8

-- a rule's window has 1 to 12 letters, and so has a density's width
abbrev pub most_window : ℕ
most_window = 12

abbrev pub most_width : ℕ
most_width = 12

-- the words of a window are at most 4,096
abbrev pub most_words : ℕ
most_words = 4096

-- a ring has 1 to 4,096 cells
abbrev pub most_cells : ℕ
most_cells = 4096

-- from low to end - 1
abbrev pub within : ℕ → ℕ → ℕ → Bool
within low end v = nat_le low v && nat_lt v end

-- there are few enough words of m letters
abbrev pub few_words : ℕ → ℕ → Bool
few_words q m = nat_le (q ^ m) most_words

-- how many words of m letters there are, where q is an alphabet size and the words are few
abbrev pub word_count : ℕ → ℕ → Option ℕ
word_count q m = cond (within least_letters (suc most_letters) q && few_words q m) (Some (q ^ m)) None
