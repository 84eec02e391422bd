-- What counts as success. Assumes nothing.
use Rattle.std.specs.Prelude.{ℕ, Bool, true, false}
use Rattle.cli.specs.declared.outcome.Outcome.{Outcome}
use Rattle.cli.specs.declared.outcome.Outcome.TheVariants.{Done, Undone}

-- a question is done where it is so
abbrev pub so : Bool → Outcome
so true = Done
so false = Undone

-- two parts are done where each is
abbrev pub both : Outcome → Outcome → Outcome
both Done o = o
both Undone o = Undone

-- the status 0 says that all is done
abbrev pub status : Outcome → ℕ
status Done = 0
status Undone = 1
