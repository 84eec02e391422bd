-- The numbers of the delivered kinds in presets. Assumes nothing.
use Rattle.std.specs.Prelude.{ℕ, cond, List, [], ◌∷◌, Some, None, Option, ◌==◌}
use Rattle.charge.specs.declared.kind.ChargeKind.{ChargeKind}
use Rattle.charge.specs.declared.kind.ChargeKind.TheVariants.{Voices, Pitch, Channels, Both, Cents}

-- the number of a kind
abbrev pub number_of : ChargeKind → ℕ
number_of Voices = 0
number_of Pitch = 1
number_of Channels = 2
number_of Both = 3
number_of Cents = 4

-- the first of some kinds that has a number
abbrev pub numbered : ℕ → List ChargeKind → Option ChargeKind
numbered n [] = None
numbered n (k ∷ ks) = cond (number_of k == n) (Some k) (numbered n ks)

-- the kind that has a number, if any has
abbrev pub kind_of : ℕ → Option ChargeKind
kind_of n = numbered n (Voices ∷ Pitch ∷ Channels ∷ Both ∷ Cents ∷ [])
