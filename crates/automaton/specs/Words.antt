-- Words, their codes, and rings. Assumes nothing.
use Rattle.std.specs.Prelude.{◌≡◌, ℕ, zero, suc, ◌+◌, ◌-◌, ◌*◌, ◌/◌, ◌%◌, ◌<◌, List, [], ◌∷◌, ◌++◌, length, replicate, slice_index, slice_index_or}
use Rattle.std.specs.Int.Digits.{number_from_digits}

-- each letter is below q
abbrev pub Letters : ℕ → List ℕ → Type 0
Letters q w = (i : ℕ) → i < length w → slice_index w i < q

-- a word of m letters below q
abbrev pub Word : ℕ → ℕ → List ℕ → Type 0
Word q m w = (length w ≡ m) × Letters q w

-- the code of a word: its value in base q with the first letter most significant
abbrev pub code : ℕ → List ℕ → ℕ
code q w = number_from_digits q w

-- the word of m letters with a code
abbrev pub word : ℕ → ℕ → ℕ → List ℕ
word q zero c = []
word q (suc m) c = word q m (c / q) ++ (c % q ∷ [])

-- n times the letter z
abbrev pub repeated : ℕ → ℕ → List ℕ
repeated z n = replicate n z

-- s i, s (i + 1) and so on, m of them
abbrev pub window : {X : Type 0} → ℕ → (ℕ → X) → ℕ → List X
window zero s i = []
window (suc m) s i = s i ∷ window m s (suc i)

-- f 0 to f (n - 1): the table of a function of codes or of sites
abbrev pub table : {X : Type 0} → ℕ → (ℕ → X) → List X
table n f = window n f 0

-- entry i of a list that goes round, which is also entry i + L; none is for the empty list
abbrev pub round : {X : Type 0} → X → List X → ℕ → X
round none c i = slice_index_or c (i % length c) none

-- cell i of a ring of L cells, which is also cell i + L
abbrev pub cell : List ℕ → ℕ → ℕ
cell c i = round 0 c i

-- the index of the cell l before cell i of a ring of L cells, some rounds on so that no index is below zero
abbrev pub before : ℕ → ℕ → ℕ → ℕ
before L l i = i + (L - 1) * l
