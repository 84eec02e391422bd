-- The labels sum to what a step changes and to what two densities differ by. Assumes nothing.
use Rattle.std.proofs.Common.{◌≡◌, ℕ, ◌+◌, ◌-◌, ◌<◌, ◌≤◌, max, List, length, take, drop, sym, ap, ◌∙◌, ap₂, arith}
use Rattle.charge.specs.Groups.{Group, minus, sum_over}
use Rattle.charge.proofs.Sums.{sum_same, sum-minus, sum_turn}
use Rattle.automaton.specs.Words.{window, cell}
use Rattle.automaton.specs.Meanings.{Local, Weights, answer, weight, next, total}
use Rattle.automaton.proofs.Rings.{window_same, take-window, drop-window, window_turn, cell_turn}
use Rattle.automaton.proofs.Steps.{length-next, answer_at, next-at, total_windows}
use Rattle.criterion.specs.Balance.{ring_sum}
use Rattle.bench.specs.Labels.{next_letters, rule_label, two_label}

-- the label sums to what a ring gains in a step
abbrev pub StepGains : (G : Group) → Type 0
StepGains G = (r : Local) (d : Weights G.Carrier) → r.l < r.n → (c : List ℕ) → 1 ≤ length c →
    ring_sum G (rule_label G r d) (r.n + d.k - 1) c ≡ minus G (total G d (next r c)) (total G d c)

-- the label of two densities sums to the difference of the totals
abbrev pub TwoGains : (G : Group) → Type 0
TwoGains G = (d e : Weights G.Carrier) (c : List ℕ) →
    ring_sum G (two_label G d e) (max d.k e.k) c ≡ minus G (total G d c) (total G e c)

part-window : (l k m : ℕ) (s : ℕ → ℕ) (i : ℕ) → l + k ≤ m → take k (drop l (window m s i)) ≡ window k s (i + l)
part-window l k m s i h =
    let width : m ≡ l + (m - l) = omega arith in
    ap (λ m. take k (drop l (window m s i))) width
    ∙ ap (take k) (drop-window l (m - l) s i)
    ∙ take-window k (m - l) s (i + l) (omega arith)

-- the next letters of a window are the answers for its parts
pub next_letters-window : (r : Local) (k : ℕ) (s : ℕ → ℕ) (i : ℕ) → 1 ≤ r.n →
    next_letters r k (window (r.n + k - 1) s i) ≡ window k (λ t. answer r (window r.n s t)) i
next_letters-window r k s i some =
    window_same k (λ j. answer r (take r.n (drop j (window (r.n + k - 1) s i)))) (λ t. answer r (window r.n s t)) 0 i
    (λ t h. ap (answer r) (part-window (0 + t) r.n (r.n + k - 1) s i (omega arith) ∙ ap (window r.n s) (omega arith)))

module _ (G : Group) where
  -- the label of the window at i is what the site l further on gains
  pub label-window : (r : Local) (d : Weights G.Carrier) → r.l < r.n → (c : List ℕ) → 1 ≤ length c → (i : ℕ) →
      rule_label G r d (window (r.n + d.k - 1) (cell c) i)
      ≡ minus G (weight G d (window d.k (cell (next r c)) (i + r.l))) (weight G d (window d.k (cell c) (i + r.l)))
  label-window r d inside c some i =
      ap₂ (λ a b. minus G (weight G d a) (weight G d b))
      (next_letters-window r d.k (cell c) i (omega arith)
      ∙ window_same d.k (answer_at r c some) (cell (next r c)) i (i + r.l)
      (λ t _. sym (next-at r c some (i + t)) ∙ ap (cell (next r c)) (omega arith)))
      (part-window r.l d.k (r.n + d.k - 1) (cell c) i (omega arith))

  pub step_gains : StepGains G
  step_gains r d inside c some =
      let c' : List ℕ = next r c in
      let m : ℕ = r.n + d.k - 1 in
      let new : ℕ → G.Carrier = λ i. weight G d (window d.k (cell c') i) in
      let old : ℕ → G.Carrier = λ i. weight G d (window d.k (cell c) i) in
      let size : length c' ≡ length c = length-next r c in
      sum_same G (λ i. rule_label G r d (window m (cell c) i)) (λ i. minus G (new (i + r.l)) (old (i + r.l))) (length c)
      (λ i _. label-window r d inside c some i)
      ∙ sum-minus G (λ i. new (i + r.l)) (λ i. old (i + r.l)) (length c)
      ∙ ap₂ (minus G)
      (sum_turn G new (length c)
      (λ i. ap (λ t. new (i + t)) (sym size) ∙ ap (weight G d) (window_turn d.k (cell c') (length c') (cell_turn c') i)) r.l
      ∙ ap (sum_over G new) (sym size)
      ∙ sym (total_windows G d c'))
      (sum_turn G old (length c) (λ i. ap (weight G d) (window_turn d.k (cell c) (length c) (cell_turn c) i)) r.l
      ∙ sym (total_windows G d c))

  pub two_gains : TwoGains G
  two_gains d e c =
      let m : ℕ = max d.k e.k in
      let first : ℕ → G.Carrier = λ i. weight G d (window d.k (cell c) i) in
      let second : ℕ → G.Carrier = λ i. weight G e (window e.k (cell c) i) in
      sum_same G (λ i. two_label G d e (window m (cell c) i)) (λ i. minus G (first i) (second i)) (length c)
      (λ i _. ap₂ (λ x y. minus G (weight G d x) (weight G e y))
      (take-window d.k m (cell c) i (omega arith)) (take-window e.k m (cell c) i (omega arith)))
      ∙ sum-minus G first second (length c)
      ∙ sym (ap₂ (minus G) (total_windows G d c) (total_windows G e c))
