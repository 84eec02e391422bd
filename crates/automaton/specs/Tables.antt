-- Tables of functions, read entry by entry. Assumes nothing.
use Rattle.std.specs.Prelude.{◌≡◌, ℕ, zero, suc, ◌+◌, ◌<◌, length, slice_index_or, refl}
use Rattle.std.proofs.Common.{sym, ap, ◌∙◌, add-zero, zero-add, arith}
use Rattle.automaton.specs.Words.{window, table}

pub length-window : {X : Type 0} (m : ℕ) (s : ℕ → X) (i : ℕ) → length (window m s i) ≡ m
length-window zero s i = refl
length-window (suc m) s i = ap suc (length-window m s (suc i))

pub get_or-window : {X : Type 0} (none : X) (m : ℕ) (s : ℕ → X) (i t : ℕ) → t < m → slice_index_or (window m s i) t none ≡ s (i + t)
get_or-window none zero s i t h = absurd (omega arith)
get_or-window none (suc m) s i zero h = ap s (sym (add-zero i))
get_or-window none (suc m) s i (suc t) h = get_or-window none m s (suc i) t (omega arith) ∙ ap s (omega arith)

module _ {X : Type 0} (n : ℕ) (f : ℕ → X) where
  pub length-table : length (table n f) ≡ n
  length-table = length-window n f 0

  pub get_or-table : (none : X) (i : ℕ) → i < n → slice_index_or (table n f) i none ≡ f i
  get_or-table none i h = get_or-window none n f 0 i h ∙ ap f (zero-add i)
