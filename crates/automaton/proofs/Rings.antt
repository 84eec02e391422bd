-- Windows, tables, the cells of rings, and the letters of words. Assumes nothing.
use Rattle.std.proofs.Common.{◌≡◌, ℕ, zero, suc, ◌+◌, ◌*◌, ◌/◌, ◌%◌, ◌<◌, ◌≤◌, List, [], ◌∷◌, ◌++◌, length, get_or, take, drop, sym, refl, ap, ◌∙◌, subst, ap₂, add-zero, mod-lt, mod-eq_of_lt, suc-mul, mul_comm, suc-add, zero-add, zero-mul, arith, length-drop, length-take, get_or-drop, get_or-take}
use native.Mathlib.Nat.{add-mod_right, div-add-mod}
use lib.ListN.{length-replicate, get_or-replicate}
use Rattle.automaton.specs.Words.{Letters, Word, repeated, window, table, round, cell}
use Rattle.std.proofs.lemmas.List.{get_or_past}
pub use Rattle.automaton.specs.Tables.{length-window, get_or-window, length-table, get_or-table}

-- past the end of a table
pub table-past : {X : Type 0} (n : ℕ) (f : ℕ → X) (none : X) (i : ℕ) → n ≤ i → get_or (table n f) i none ≡ none
table-past n f none i h = get_or_past (table n f) i none (omega (arith, length-table n f))

-- two windows are the same if their entries are
pub window_same : {X : Type 0} (m : ℕ) (s u : ℕ → X) (i k : ℕ) → ((t : ℕ) → t < m → s (i + t) ≡ u (k + t)) → window m s i ≡ window m u k
window_same zero s u i k e = refl
window_same (suc m) s u i k e =
    ap₂ ◌∷◌ (ap s (sym (add-zero i)) ∙ e 0 (omega arith) ∙ ap u (add-zero k))
    (window_same m s u (suc i) (suc k) (λ t h. ap s (omega arith) ∙ e (suc t) (omega arith) ∙ ap u (omega arith)))

pub take-window : {X : Type 0} (a m : ℕ) (s : ℕ → X) (i : ℕ) → a ≤ m → take a (window m s i) ≡ window a s i
take-window zero m s i h = refl
take-window (suc a) zero s i h = absurd (omega arith)
take-window (suc a) (suc m) s i h = ap (λ t. s i ∷ t) (take-window a m s (suc i) (omega arith))

pub drop-window : {X : Type 0} (a m : ℕ) (s : ℕ → X) (i : ℕ) → drop a (window (a + m) s i) ≡ window m s (i + a)
drop-window zero m s i = ap₂ (λ n k. window n s k) (zero-add m) (sym (add-zero i))
drop-window (suc a) m s i =
    ap (λ n. drop (suc a) (window n s i)) (suc-add a m)
    ∙ drop-window a m s (suc i)
    ∙ ap (window m s) (omega arith)

pub window-append : {X : Type 0} (a b : ℕ) (s : ℕ → X) (i : ℕ) → window (a + b) s i ≡ window a s i ++ window b s (i + a)
window-append zero b s i = ap₂ (λ n k. window n s k) (zero-add b) (sym (add-zero i))
window-append (suc a) b s i =
    ap (λ n. window n s i) (suc-add a b)
    ∙ ap (λ t. s i ∷ t) (window-append a b s (suc i) ∙ ap (λ k. window a s (suc i) ++ window b s k) (omega arith))

-- windows have the period of what they are cut from
pub window_turn : {X : Type 0} (m : ℕ) (s : ℕ → X) (n : ℕ) → ((i : ℕ) → s (i + n) ≡ s i) → (i : ℕ) → window m s (i + n) ≡ window m s i
window_turn m s n e i = window_same m s s (i + n) i (λ t h. ap s (omega arith) ∙ e (i + t))

-- some rounds on, everything is as it was
pub turns : {X : Type 0} (s : ℕ → X) (n : ℕ) → ((i : ℕ) → s (i + n) ≡ s i) → (k i : ℕ) → s (i + k * n) ≡ s i
turns s n e zero i = ap s (omega (arith, zero-mul n))
turns s n e (suc k) i = ap s (omega (arith, suc-mul k n)) ∙ e (i + k * n) ∙ turns s n e k i

pub window-word : (q m : ℕ) (s : ℕ → ℕ) → ((i : ℕ) → s i < q) → (i : ℕ) → Word q m (window m s i)
window-word q m s below i =
    (length-window m s i, λ t h. subst (λ x. x < q) (sym (get_or-window 0 m s i t (omega (arith, length-window m s i)))) (below (i + t)))

module _ {X : Type 0} (n : ℕ) (f : ℕ → X) where
  -- a table of one period goes round as its function does
  pub round-table : (none : X) → 1 ≤ n → ((i : ℕ) → f (i + n) ≡ f i) → (i : ℕ) → round none (table n f) i ≡ f i
  round-table none some e i =
      ap (λ k. get_or (table n f) (i % k) none) (length-table n f)
      ∙ get_or-table n f none (i % n) (mod-lt i some)
      ∙ sym (turns f n e (i / n) (i % n))
      ∙ ap f (omega (arith, div-add-mod i n, mul_comm n (i / n)))

pub cell_turn : (c : List ℕ) (i : ℕ) → cell c (i + length c) ≡ cell c i
cell_turn c i = ap (λ t. get_or c t 0) (add-mod_right i (length c))

pub cell_inside : (c : List ℕ) (i : ℕ) → i < length c → cell c i ≡ get_or c i 0
cell_inside c i h = ap (λ t. get_or c t 0) (mod-eq_of_lt h)

pub cell_below : (q : ℕ) (c : List ℕ) → 1 ≤ length c → Letters q c → (i : ℕ) → cell c i < q
cell_below q c some below i = below (i % length c) (mod-lt i some)

-- the words that stand on a ring
pub ring-word : (q m : ℕ) (c : List ℕ) → 1 ≤ length c → Letters q c → (i : ℕ) → Word q m (window m (cell c) i)
ring-word q m c some below i = window-word q m (cell c) (cell_below q c some below) i

pub letters-append : (q : ℕ) (xs ys : List ℕ) → Letters q xs → Letters q ys → Letters q (xs ++ ys)
letters-append q [] ys a b i h = b i h
letters-append q (x ∷ xs) ys a b zero h = a 0 (omega arith)
letters-append q (x ∷ xs) ys a b (suc i) h = letters-append q xs ys (λ k l. a (suc k) (omega arith)) b i (omega arith)

pub letters-take : (q n : ℕ) (w : List ℕ) → Letters q w → Letters q (take n w)
letters-take q n w a i h =
    let l : i < n = omega (arith, length-take n w) in
    rw (get_or-take n w i 0 l) (a i (omega (arith, length-take n w)))

pub letters-drop : (q n : ℕ) (w : List ℕ) → Letters q w → Letters q (drop n w)
letters-drop q n w a i h = rw (get_or-drop n w i 0) (a (n + i) (omega (arith, length-drop n w)))

pub letters-repeated : (q z n : ℕ) → z < q → Letters q (repeated z n)
letters-repeated q z n some i h = rw (get_or-replicate {A = ℕ} n i z 0 (omega (arith, length-replicate {A = ℕ} n z))) some

pub repeated-word : (q z n : ℕ) → z < q → Word q n (repeated z n)
repeated-word q z n some = (length-replicate n z, letters-repeated q z n some)
