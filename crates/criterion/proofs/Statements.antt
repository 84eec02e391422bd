-- What balance says of rings, over any label on words of m letters and any padding letter z. Assumes nothing.
use Rattle.std.proofs.Common.{◌≡◌, ℕ, ◌-◌, ◌*◌, ◌<◌, ◌≤◌, ◌↔◌, List}
use Rattle.charge.specs.Groups.{Group}
use Rattle.automaton.specs.Words.{Word, repeated}
use Rattle.criterion.specs.Balance.{ring_sum, SumsToZero, crossing, Balanced, Balances, ring_a, ring_b}

-- no word fails
abbrev pub Holds : (G : Group) → (List ℕ → G.Carrier) → ℕ → ℕ → ℕ → Type 0
Holds G d z q m = Balances G d q m (crossing G d z m)

-- no word fails exactly when the label sums to zero on the rings of every length
abbrev pub Criterion : (G : Group) → ℕ → Type 0
Criterion G z = (d : List ℕ → G.Carrier) (q m : ℕ) → z < q → 1 ≤ m → Holds G d z q m ↔ SumsToZero G d q m

-- A word that fails is seen on ring A, or else on ring B, which then has a cell.
abbrev pub BreakShown : (G : Group) → ℕ → Type 0
BreakShown G z = (d : List ℕ → G.Carrier) (q m : ℕ) (w : List ℕ) → z < q → 1 ≤ m → Word q m w → (Balanced G d m (crossing G d z m) w → ⊥) →
    Word q (2 * m - 1) (ring_a z m w) × Word q (2 * m - 2) (ring_b z m w)
    × (ring_sum G d m (ring_a z m w) ≡ G.zero → (2 ≤ m) × (ring_sum G d m (ring_b z m w) ≡ G.zero → ⊥))

-- under "holds" J is zero on the word of letters z
abbrev pub CrossingZero : (G : Group) → ℕ → Type 0
CrossingZero G z = (d : List ℕ → G.Carrier) (q m : ℕ) → z < q → 1 ≤ m → Holds G d z q m → crossing G d z m (repeated z (m - 1)) ≡ G.zero

-- a table that balances every word and is zero on the word of letters z is J
abbrev pub CrossingOnly : (G : Group) → ℕ → Type 0
CrossingOnly G z = (d T : List ℕ → G.Carrier) (q m : ℕ) → z < q → Balances G d q m T → T (repeated z (m - 1)) ≡ G.zero →
    (v : List ℕ) → Word q (m - 1) v → T v ≡ crossing G d z m v
