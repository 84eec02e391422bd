-- A header that has passed, as the definitions have it. Assumes nothing.
use Rattle.std.specs.Prelude.{Ok, Err, Result}
use Rattle.fault.specs.declared.Fault.{Fault}
use Rattle.preset.specs.declared.header.Head.{Head}
use Rattle.preset.specs.Presets.{PresetHead}

abbrev pub head_of : Head → PresetHead
head_of h = record { kind = h.kind; header = h.header }

abbrev pub heads : Result Head Fault → Result PresetHead Fault
heads (Ok h) = Ok (head_of h)
heads (Err f) = Err f
