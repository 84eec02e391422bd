-- Densities whose charges may be entries. Assumes nothing.
use Rattle.std.specs.Prelude.{◌≡◌, ℕ, ◌^◌, Bool, true, ◌||◌, slice_index_or}
use Rattle.charge.specs.Groups.{Kind}
use Rattle.charge.specs.Kinds.{voice_group, signed}
use Rattle.charge.specs.Ranges.{voices_range}
use Rattle.charge.specs.Residues.{Below}
use Rattle.automaton.specs.Meanings.{Weights}

-- a charge that may be an entry or means zero
abbrev pub entry_or_zero : {C : Type 0} → Kind C → C → Bool
entry_or_zero K x = K.entry x || K.same (K.means x) K.group.zero

-- each charge in voices, read as a whole number, is in the range of an entry
abbrev pub InRange : Weights (Below (2 ^ 64)) → Type 0
InRange d = (i : ℕ) → voices_range (signed (slice_index_or d.charges i voice_group.zero)) ≡ true
