-- One row more of a table. Assumes nothing.
use Rattle.std.proofs.Common.{◌≡◌, ℕ, ◌+◌, ◌<◌, List, ◌++◌, length, get_or, take, sym, refl}
use Rattle.report.specs.Texts.{rows_text}
use Rattle.report.proofs.Tables.{rows_grow}

module _ {X : Type 0} (row : ℕ → X → List ℕ) (xs : List X) (i : ℕ) (x : X) where
  pub row_more : i < length xs → x ≡ get_or xs i x → rows_text row 0 (take (i + 1) xs) ≡ rows_text row 0 (take i xs) ++ row i x
  row_more h here = sym (rows_grow row xs i x h here (rows_text row 0 (take i xs)) (rows_text row 0 (take i xs) ++ row i x) refl refl)
