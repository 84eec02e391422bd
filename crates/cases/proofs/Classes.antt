-- Twelve semitones are a whole turn. Assumes nothing.
use Rattle.std.proofs.Common.{◌≡◌, refl}
use Rattle.charge.specs.Residues.{below_eq}
use Rattle.cases.specs.Examples.{class}

pub twelve_in_pitch : class 12 ≡ class 0
twelve_in_pitch = below_eq (class 12) (class 0) refl
