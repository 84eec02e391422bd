-- Labels, crossings and what it is to balance. Assumes nothing.
use Rattle.std.specs.Prelude.{◌≡◌, ℕ, suc, ◌-◌, ◌≤◌, List, ◌++◌, length, take, drop}
use Rattle.charge.specs.Groups.{Group, minus, sum_over}
use Rattle.automaton.specs.Words.{Letters, Word, repeated, window, cell}

-- In all of these d is a label: a charge for each word of m letters. z is the letter that words and rings are padded
-- with.

-- the sum of d over all windows of a ring
abbrev pub ring_sum : (G : Group) → (List ℕ → G.Carrier) → ℕ → List ℕ → G.Carrier
ring_sum G d m c = sum_over G (λ i. d (window m (cell c) i)) (length c)

-- the label sums to zero on every ring
abbrev pub SumsToZero : (G : Group) → (List ℕ → G.Carrier) → ℕ → ℕ → Type 0
SumsToZero G d q m = (c : List ℕ) → 1 ≤ length c → Letters q c → ring_sum G d m c ≡ G.zero

-- the crossing J of a word v of m - 1 letters: the opposite of the sum, for j = 0 to m - 2, of d on m - 1 - j letters z
-- and then v(0) to v(j)
abbrev pub crossing : (G : Group) → (List ℕ → G.Carrier) → ℕ → ℕ → List ℕ → G.Carrier
crossing G d z m v = G.neg (sum_over G (λ j. d (repeated z (m - 1 - j) ++ take (suc j) v)) (m - 1))

-- with the table of crossings T the word w does not fail: d(w) is what crosses at its first m - 1 letters less what
-- crosses at its last m - 1 letters
abbrev pub Balanced : (G : Group) → (List ℕ → G.Carrier) → ℕ → (List ℕ → G.Carrier) → List ℕ → Type 0
Balanced G d m T w = d w ≡ minus G (T (take (m - 1) w)) (T (drop 1 w))

-- a table of crossings with which no word fails
abbrev pub Balances : (G : Group) → (List ℕ → G.Carrier) → ℕ → ℕ → (List ℕ → G.Carrier) → Type 0
Balances G d q m T = (w : List ℕ) → Word q m w → Balanced G d m T w

-- the table J balances every word and is zero on the word of letters z, and every table that does both equals it
abbrev pub OnlyTable : (G : Group) → (List ℕ → G.Carrier) → ℕ → ℕ → ℕ → (List ℕ → G.Carrier) → Type 0
OnlyTable G d z q m J =
    Balances G d q m J
    × (J (repeated z (m - 1)) ≡ G.zero)
    × ((T : List ℕ → G.Carrier) → Balances G d q m T → T (repeated z (m - 1)) ≡ G.zero → (v : List ℕ) → Word q (m - 1) v → T v ≡ J v)

-- the two rings that a failing word of m letters is tried on: the word and m - 1 letters z, and that without its first
-- letter
abbrev pub ring_a : ℕ → ℕ → List ℕ → List ℕ
ring_a z m w = w ++ repeated z (m - 1)

abbrev pub ring_b : ℕ → ℕ → List ℕ → List ℕ
ring_b z m w = drop 1 (ring_a z m w)
