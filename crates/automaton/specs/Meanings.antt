-- What rules and densities mean, by words and on rings. Assumes nothing.
use Rattle.std.specs.Prelude.{◌≡◌, ℕ, ◌^◌, ◌<◌, ◌≤◌, List, length, slice_index, slice_index_or}
use Rattle.fault.specs.Limits.{least_letters, most_letters, most_window, most_width}
use Rattle.charge.specs.Groups.{Group, sum_over}
use Rattle.automaton.specs.Words.{Letters, code, window, table, cell, before}

-- A rule: q letters, a window of n cells of which l stand before the cell itself, and an answer for each word of
-- n letters, in the order of the codes.
pub record Local : Type 0 where
  pub q : ℕ
  pub n : ℕ
  pub l : ℕ
  pub answers : List ℕ

-- the limits of a rule's sizes
abbrev pub RuleLimits : ℕ → ℕ → ℕ → Type 0
RuleLimits q n l = (least_letters ≤ q) × (q ≤ most_letters) × (1 ≤ n) × (n ≤ most_window) × (l < n)

-- the sizes are within their limits, and there is an answer below q for each word
pub record Lawful (r : Local) : Type 0 where
  pub sizes : RuleLimits r.q r.n r.l
  pub each : length r.answers ≡ r.q ^ r.n
  pub letters : Letters r.q r.answers

-- A density: q letters, and a charge for each word of k letters, in the order of the codes.
pub record Weights (A : Type 0) : Type 0 where
  pub q : ℕ
  pub k : ℕ
  pub charges : List A

-- the limits of a density's sizes
abbrev pub DensityLimits : ℕ → ℕ → Type 0
DensityLimits q k = (least_letters ≤ q) × (q ≤ most_letters) × (1 ≤ k) × (k ≤ most_width)

-- the sizes are within their limits, and there is a charge for each word
pub record Weighed {A : Type 0} (d : Weights A) : Type 0 where
  pub sizes : DensityLimits d.q d.k
  pub each : length d.charges ≡ d.q ^ d.k

-- a rule's answer for a word
abbrev pub answer : Local → List ℕ → ℕ
answer r w = slice_index r.answers (code r.q w)

-- the charge that a density gives a word
abbrev pub weight : (G : Group) → Weights G.Carrier → List ℕ → G.Carrier
weight G d w = slice_index_or d.charges (code d.q w) G.zero

-- the ring after one step: the next letter of cell i is the answer for cells i - l to i - l + n - 1
abbrev pub next : Local → List ℕ → List ℕ
next r c = table (length c) (λ i. answer r (window r.n (cell c) (before (length c) r.l i)))

-- the charge of site i: the density's charge on the k cells from `offset` cells before cell i on
abbrev pub site : (G : Group) → ℕ → Weights G.Carrier → List ℕ → ℕ → G.Carrier
site G offset d c i = weight G d (window d.k (cell c) (before (length c) offset i))

-- a window's charge is booked at its first cell
abbrev pub booking_offset : ℕ
booking_offset = 0

-- the total of a ring is the sum over its sites
abbrev pub total : (G : Group) → Weights G.Carrier → List ℕ → G.Carrier
total G d c = sum_over G (site G booking_offset d c) (length c)
