-- Codes of windows, and the cell some cells before another. Assumes nothing.
use Rattle.std.proofs.Common.{◌≡◌, ℕ, zero, suc, ◌+◌, ◌-◌, ◌*◌, ◌/◌, ◌%◌, ◌^◌, ◌<◌, ◌≤◌, List, [], ◌∷◌, ◌++◌, length, get_or, take, drop, set, sym, ap, ◌∙◌, ap₂, append_assoc, mod-lt, suc-mul, mul_comm, mul-le-mul_left, zero-add, arith}
use native.Mathlib.Nat.{div-add-mod}
use Rattle.std.proofs.lemmas.List.{take_more, drop_more, set_at, take_all, ext_get_or, length-take-le}
use Rattle.std.proofs.lemmas.Int.Digits.{number_push}
use Rattle.fault.proofs.Powers.{power_bound}
use Rattle.fault.specs.Answers.{at_front}
use Rattle.automaton.specs.Words.{Letters, code, window, cell, before}
use Rattle.automaton.specs.Meanings.{Local, answer, next}
use Rattle.automaton.proofs.Codes.{code_lt}
use Rattle.automaton.proofs.Rings.{length-window, get_or-window, get_or-table, window-append, window_turn, turns, cell_turn, cell_inside, ring-word}

module _ (q : ℕ) (c : List ℕ) (start : ℕ) where
  -- one cell more
  pub code_more : (j x a : ℕ) → x ≡ code q (window j (cell c) start) → a ≡ get_or c ((start + j) % length c) 0 → x * q + a ≡ code q (window (j + 1) (cell c) start)
  code_more j x a e h =
      sym (ap (code q) (window-append j 1 (cell c) start)
      ∙ number_push q (window j (cell c) start) (cell c (start + j))
      ∙ rw (sym e, sym h))

  pub code_times : (j x : ℕ) → 1 ≤ length c → Letters q c → q ≤ 8 → j ≤ 12 → x ≡ code q (window j (cell c) start) → x * q < 2 ^ 40
  code_times j x some below small short e =
      let bound = code_lt q j (window j (cell c) start) (ring-word q j c some below start) in
      omega (arith, mul-le-mul_left x small, bound, power_bound q j small short)

-- two ways to the cell l cells before cell i of a ring of n cells
rounds : (n l i : ℕ) → 1 ≤ n → i + (n - l % n) + l * n ≡ before n l i + suc (l / n) * n
rounds zero l i some = absurd (omega arith)
rounds (suc n) l i some =
    let plain : suc n - 1 ≡ n = omega arith in
    rw plain (omega (arith, div-add-mod l (suc n), mod-lt l {m = suc n} (omega arith), mul_comm l (suc n), suc-mul n l, suc-mul (l / suc n) (suc n), mul_comm (l / suc n) (suc n)))

-- the cells around cell i, from an index that is at most two rounds on
pub span-round : (m : ℕ) (c : List ℕ) (l i : ℕ) → 1 ≤ length c → window m (cell c) (i % length c + (length c - l % length c)) ≡ window m (cell c) (before (length c) l i)
span-round m c l i some =
    sym (turns w n turn l (i % n + (n - l % n)))
    ∙ ap w (rounds n l (i % n) some)
    ∙ turns w n turn (suc (l / n)) (before n l (i % n))
    ∙ sym (turns w n turn (i / n) (before n l (i % n)))
    ∙ ap w (omega (arith, div-add-mod i n, mul_comm n (i / n)))
  where
    n : ℕ
    n = length c

    w : ℕ → List ℕ
    w = window m (cell c)

    turn : (i : ℕ) → w (i + n) ≡ w i
    turn = window_turn m (cell c) n (cell_turn c)

-- a word as a ring has itself for its window
pub window-whole : (k : ℕ) (w : List ℕ) → length w ≡ k → window k (cell w) 0 ≡ w
window-whole k w e =
    ext_get_or 0 (window k (cell w) 0) w (length-window k (cell w) 0 ∙ sym e)
    (λ i h.
    let within : i < k = omega (arith, length-window k (cell w) 0) in
    get_or-window 0 k (cell w) 0 i within ∙ ap (cell w) (zero-add i) ∙ cell_inside w i (omega arith))

-- the next letter of a cell, as it is computed
pub next-letter-at : (r : Local) (c : List ℕ) (i q n l x a : ℕ) → i < length c → q ≡ r.q → n ≡ r.n → l ≡ r.l →
    x ≡ code q (window n (cell c) (before (length c) l i)) → a ≡ get_or r.answers x 0 → a ≡ get_or (next r c) i 0
next-letter-at r c i q n l x a within eq en el ex ea =
    ea
    ∙ ap (λ t. get_or r.answers t 0) (ex ∙ (λ j. code (eq j) (window (en j) (cell c) (before (length c) (el j) i))))
    ∙ sym (get_or-table (length c) (λ j. answer r (window r.n (cell c) (before (length c) r.l j))) 0 i within)

-- one entry more at the front of a strip, and all of them
module _ {X : Type 0} (xs old strip : List X) (i : ℕ) where
  pub front_more : (none x : X) → i < length xs → i < length old → x ≡ get_or xs i none → strip ≡ take i xs ++ drop i old →
      set strip i x ≡ take (i + 1) xs ++ drop (i + 1) old
  front_more none x h room is e =
      ap (λ t. set t i x) (e ∙ ap (λ t. take i xs ++ t) (drop_more old i none room))
      ∙ set_at (take i xs) (get_or old i none) (drop (i + 1) old) x i (length-take-le i xs (omega arith))
      ∙ ap (λ y. take i xs ++ (y ∷ drop (i + 1) old)) is
      ∙ sym (append_assoc (take i xs) (get_or xs i none ∷ []) (drop (i + 1) old))
      ∙ ap (λ t. t ++ drop (i + 1) old) (sym (take_more xs i none h))

  pub front-done : i ≡ length xs → strip ≡ take i xs ++ drop i old → strip ≡ at_front xs old
  front-done h e = e ∙ ap₂ (λ t n. t ++ drop n old) (take_all i xs (omega arith)) h
