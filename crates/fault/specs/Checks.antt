-- Tests that a call makes before it works: the first that fails is the refusal. Assumes nothing.
use Rattle.std.specs.Prelude.{ℕ, ◌+◌, Bool, cond, List, [], ◌∷◌, Ok, Err, Result}
use Rattle.fault.specs.declared.Stop.{Stop}
use Rattle.fault.specs.Refusals.{Refusal, refused_at}

-- the first test that fails is refused, at place 0
abbrev pub tested : List (Bool × Stop) → Result (Unit {0}) Refusal
tested [] = Ok tt
tested (t ∷ ts) = cond t.0 (tested ts) (Err (refused_at t.1 0))

-- the first of some items that is not allowed is refused by its index, counted from i
abbrev pub each_fits : {X : Type 0} → (X → Bool) → Stop → ℕ → List X → Result (Unit {0}) Refusal
each_fits fits stop i [] = Ok tt
each_fits fits stop i (x ∷ xs) = cond (fits x) (each_fits fits stop (i + 1) xs) (Err (refused_at stop i))
