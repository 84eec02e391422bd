-- Words and rings as digits. Assumes nothing.
use Rattle.std.specs.Prelude.{ℕ, List, decimal}
use Rattle.std.specs.List.{flat_map}

-- the letters of a word or a ring with nothing between them
abbrev pub digits : List ℕ → List ℕ
digits w = flat_map decimal w
