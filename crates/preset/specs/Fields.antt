-- A number that has to lie in a range. Assumes nothing.
use Rattle.std.specs.Prelude.{ℕ, ◌-◌, cond, List, length, Ok, Err}
use Rattle.fault.specs.declared.Stop.{Stop}
use Rattle.fault.specs.Limits.{within}
use Rattle.fault.specs.Refusals.{refused_at}
use Rattle.fault.specs.Answers.{and_then}
use Rattle.preset.specs.Answers.{Parse}
use Rattle.preset.specs.Numbers.{number_read}

-- a number in its range at the front of bs, the last bytes of an input of `whole` bytes
abbrev pub field : ℕ → ℕ → ℕ → Stop → List ℕ → Parse ℕ
field whole low end stop bs =
    and_then (number_read (whole - length bs) bs) (λ p. cond (within low end p.0) (Ok p) (Err (refused_at stop (whole - length bs))))
