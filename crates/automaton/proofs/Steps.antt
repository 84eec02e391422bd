-- The cells of a ring after one step, and the windows that a total sums over. Assumes nothing.
use Rattle.std.proofs.Common.{◌≡◌, ℕ, zero, suc, ◌+◌, ◌-◌, ◌*◌, ◌<◌, ◌≤◌, List, [], ◌∷◌, length, get_or, ap, ◌∙◌, suc-mul, mul_comm, mul-zero, arith}
use Rattle.charge.specs.Groups.{Group, sum_over}
use Rattle.charge.proofs.Sums.{sum_same}
use Rattle.automaton.specs.Words.{Letters, Word, code, window, cell, before}
use Rattle.automaton.specs.Meanings.{Local, Weights, answer, weight, next, site, booking_offset, total}
use Rattle.automaton.proofs.Rings.{length-window, window_turn, window-word, turns, round-table, cell_turn}

-- the cell l before the cell l after i is i, some rounds on
pub before-after : (L l i : ℕ) → 1 ≤ L → before L l (i + l) ≡ i + l * L
before-after zero l i h = absurd (omega arith)
before-after (suc n) l i h =
    let plain : suc n - 1 ≡ n = omega arith in
    ap (λ t. i + l + t * l) plain ∙ omega (arith, mul_comm l (suc n), suc-mul n l)

pub length-next : (r : Local) (c : List ℕ) → length (next r c) ≡ length c
length-next r c = length-window (length c) (λ i. answer r (window r.n (cell c) (before (length c) r.l i))) 0

-- past the end of a list stands 0, which is a letter too
pub letters_any : (q : ℕ) → 0 < q → (w : List ℕ) → Letters q w → (i : ℕ) → get_or w i 0 < q
letters_any q some [] a i = some
letters_any q some (x ∷ w) a zero = a 0 (omega arith)
letters_any q some (x ∷ w) a (suc i) = letters_any q some w (λ k h. a (suc k) (omega arith)) i

-- a ring of letters below q follows if each answer is below q
pub next_word : (r : Local) (c : List ℕ) → 0 < r.q → Letters r.q r.answers → Word r.q (length c) (next r c)
next_word r c some below =
    let at : ℕ → List ℕ = λ i. window r.n (cell c) (before (length c) r.l i) in
    window-word r.q (length c) (λ i. answer r (at i)) (λ i. letters_any r.q some r.answers below (code r.q (at i))) 0

module _ (r : Local) (c : List ℕ) (some : 1 ≤ length c) where
  -- the answer for the cells from i on
  abbrev pub answer_at : ℕ → ℕ
  answer_at i = answer r (window r.n (cell c) i)

  answer_turn : (i : ℕ) → answer_at (i + length c) ≡ answer_at i
  answer_turn i = ap (answer r) (window_turn r.n (cell c) (length c) (cell_turn c) i)

  pub next-cell : (i : ℕ) → cell (next r c) i ≡ answer_at (before (length c) r.l i)
  next-cell i =
      round-table (length c) (λ i. answer_at (before (length c) r.l i)) 0 some
      (λ i. ap answer_at (omega arith) ∙ answer_turn (before (length c) r.l i)) i

  -- the next letter of cell i + l is the answer for cells i to i + n - 1
  pub next-at : (i : ℕ) → cell (next r c) (i + r.l) ≡ answer_at i
  next-at i = next-cell (i + r.l) ∙ ap answer_at (before-after (length c) r.l i some) ∙ turns answer_at (length c) answer_turn r.l i

module _ (G : Group) (d : Weights G.Carrier) (c : List ℕ) where
  -- the window of a site starts at its cell
  pub site-window : (i : ℕ) → site G booking_offset d c i ≡ weight G d (window d.k (cell c) i)
  site-window i = ap (λ t. weight G d (window d.k (cell c) t)) (omega (arith, mul-zero (length c - 1)))

  pub total_windows : total G d c ≡ sum_over G (λ i. weight G d (window d.k (cell c) i)) (length c)
  total_windows = sum_same G (site G booking_offset d c) (λ i. weight G d (window d.k (cell c) i)) (length c) (λ i _. site-window i)
