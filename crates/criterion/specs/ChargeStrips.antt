-- Strips of charges after a call. Assumes nothing.
use Rattle.std.specs.Prelude.{◌≡◌, List, map, length, take, drop}
use Rattle.charge.specs.Groups.{Kind}

-- charges that mean xs stand at the front of a strip, whose other charges stay
abbrev pub FrontMeans : {C : Type 0} → (K : Kind C) → List K.group.Carrier → List C → List C → Type 0
FrontMeans K xs old new = (map K.means (take (length xs) new) ≡ xs) × (drop (length xs) new ≡ drop (length xs) old)
