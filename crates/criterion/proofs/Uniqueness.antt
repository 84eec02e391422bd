-- The crossing J is zero on the word of letters z, and is the only such table that balances every word. Assumes nothing.
use Rattle.std.proofs.Common.{◌≡◌, ℕ, suc, ◌+◌, ◌-◌, ◌<◌, List, [], ◌++◌, length, take, drop, sym, ap, ◌∙◌, ap₂, arith, length-append, length-take, take_all, take-take}
use native.Mathlib.Nat.{sub-zero, sub_self}
use lib.ListN.{length-replicate, replicate-append-replicate}
use lib.Seq.{take-append-add}
use Rattle.std.proofs.lemmas.List.{append-nil, take-replicate, drop-replicate}
use Rattle.charge.specs.Groups.{Group, minus}
use Rattle.charge.proofs.Sums.{sum_same, sum-zero, telescope, neg-neg, neg-zero}
use Rattle.automaton.specs.Words.{Word, repeated}
use Rattle.automaton.proofs.Rings.{letters-append, letters-take, letters-repeated, repeated-word}
use Rattle.criterion.specs.Balance.{crossing}
use Rattle.criterion.proofs.Statements.{CrossingZero, CrossingOnly}
use Rattle.criterion.proofs.Criterion.{heads}

-- the words that J sums over, their first m - 1 letters and their last m - 1
module _ (z m : ℕ) (v : List ℕ) (j : ℕ) (h : j < m - 1) where
  abbrev head : List ℕ
  head = repeated z (m - 1 - j) ++ take (suc j) v

  pub word-head : (q : ℕ) → z < q → Word q (m - 1) v → Word q m head
  word-head q some word = (
    omega (arith, length-append (repeated z (m - 1 - j)) (take (suc j) v), length-replicate {A = ℕ} (m - 1 - j) z, length-take (suc j) v),
    letters-append q (repeated z (m - 1 - j)) (take (suc j) v) (letters-repeated q z (m - 1 - j) some) (letters-take q (suc j) v word.1),
  )

  take_head : take (m - 1) head ≡ repeated z (m - 1 - j) ++ take j v
  take_head =
      let parts : m - 1 ≡ length (repeated z (m - 1 - j)) + j = omega (arith, length-replicate {A = ℕ} (m - 1 - j) z) in
      ap (λ n. take n head) parts
      ∙ take-append-add (repeated z (m - 1 - j)) (take (suc j) v) j
      ∙ ap (λ t. repeated z (m - 1 - j) ++ t) (take-take j (suc j) v (omega arith))

  drop_head : drop 1 head ≡ repeated z (m - 1 - suc j) ++ take (suc j) v
  drop_head =
      let one_more : m - 1 - j ≡ suc (m - 1 - suc j) = omega arith in
      ap (λ n. drop 1 (repeated z n ++ take (suc j) v)) one_more

module _ (G : Group) (z : ℕ) where
  pub crossing_only : CrossingOnly G z
  crossing_only d T q m some balances nothing v word =
      let r : ℕ = m - 1 in
      let step : ℕ → G.Carrier = λ j. T (repeated z (r - j) ++ take j v) in
      let sums : heads G z d m v ≡ G.neg (T v) =
      sum_same G (λ j. d (repeated z (r - j) ++ take (suc j) v)) (λ j. minus G (step j) (step (suc j))) r
      (λ j h. balances (repeated z (r - j) ++ take (suc j) v) (word-head z m v j h q some word)
      ∙ ap₂ (λ a b. minus G (T a) (T b)) (take_head z m v j h) (drop_head z m v j h))
      ∙ telescope G step r
      ∙ ap₂ (λ a b. minus G (T a) (T b))
      (ap (λ n. repeated z n ++ []) (sub-zero r) ∙ append-nil (repeated z r))
      (ap₂ (λ n t. repeated z n ++ t) (sub_self r) (take_all r v (omega arith)))
      ∙ ap (λ t. minus G t (T v)) nothing
      ∙ G.unit (G.neg (T v)) in
      sym (ap G.neg sums ∙ neg-neg G (T v))

  pub crossing_zero : CrossingZero G z
  crossing_zero d q m some long holds =
      let J : List ℕ → G.Carrier = crossing G d z m in
      let r : ℕ = m - 1 in
      let at-z : d (repeated z m) ≡ G.zero =
      holds (repeated z m) (repeated-word q z m some)
      ∙ ap₂ (λ v w. minus G (J v) (J w)) (take-replicate {X = ℕ} r m z (omega arith)) (drop-replicate 1 m z)
      ∙ G.cancel (J (repeated z r)) in
      ap G.neg (sum-zero G (λ j. d (repeated z (r - j) ++ take (suc j) (repeated z r))) r
      (λ j h.
      let size : (r - j) + suc j ≡ m = omega arith in
      ap (λ t. d (repeated z (r - j) ++ t)) (take-replicate {X = ℕ} (suc j) r z (omega arith))
      ∙ ap d (replicate-append-replicate {A = ℕ} (r - j) (suc j) z ∙ ap (repeated z) size)
      ∙ at-z))
      ∙ neg-zero G
