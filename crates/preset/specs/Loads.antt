-- A preset on lent strips, as the definitions have it. Assumes nothing.
use Rattle.std.specs.Prelude.{Ok, Err, Result}
use Rattle.fault.specs.declared.Fault.{Fault}
use Rattle.fault.specs.Refusals.{Refusal, refusal}
use Rattle.preset.specs.declared.loaded.Loaded.{Loaded}
use Rattle.preset.specs.Presets.{Preset}

abbrev pub preset_of : Loaded → Preset
preset_of s = record { head = record { kind = s.kind; header = s.header }; letters = s.letters.now; entries = s.entries.now }

abbrev pub loaded : Result Loaded Fault → Result Preset Refusal
loaded (Ok s) = Ok (preset_of s)
loaded (Err f) = Err (refusal f)
