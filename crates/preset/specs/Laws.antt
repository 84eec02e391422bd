-- What presets promise beyond a single call. Assumes nothing.
use Rattle.std.specs.Prelude.{◌≡◌, ℕ, ◌<◌, List, ◌++◌, length, Some, Ok}
use Rattle.std.specs.List.{AllByRecursion}
use Rattle.fault.specs.Limits.{most_window, most_width}
use Rattle.charge.specs.Numbers.{kind_of}
use Rattle.preset.specs.declared.entry.Entry.{Entry}
use Rattle.preset.specs.declared.header.Header.{Header}
use Rattle.preset.specs.Presets.{Preset, preset, item_count, whole_preset}
use Rattle.preset.specs.Writes.{preset_to_write, preset_bytes}

abbrev pub Bytes : List ℕ → Type 0
Bytes bs = AllByRecursion (λ b. b < 256) bs

-- what is written reads back as its numbers, and any bytes after it are handed on
abbrev pub PresetReadsBack : Type 0
PresetReadsBack =
    (h : Header) (letters : List ℕ) (entries : List Entry) (p : Preset) (rest : List ℕ)
    → preset_to_write h letters entries ≡ Ok p → preset (preset_bytes p ++ rest) ≡ Ok (p, rest)

-- what is read may be written, and writes back as its bytes
abbrev pub PresetWritesBack : Type 0
PresetWritesBack =
    (bs : List ℕ) (p : Preset) (rest : List ℕ)
    → Bytes bs → preset bs ≡ Ok (p, rest)
    → (preset_to_write p.head.header p.letters p.entries ≡ Ok p) × (bs ≡ preset_bytes p ++ rest)

-- no two byte strings read as the same preset
abbrev pub OneSpelling : Type 0
OneSpelling =
    (bs cs : List ℕ) (p : Preset) → Bytes bs → Bytes cs → whole_preset bs ≡ Ok p → whole_preset cs ≡ Ok p → bs ≡ cs

-- what is read names a kind, and has as many letters and entries as its header counts
abbrev pub PresetSizes : Type 0
PresetSizes =
    (bs : List ℕ) (p : Preset)
    → Bytes bs → whole_preset bs ≡ Ok p
    → (kind_of p.head.header.kind ≡ Some p.head.kind)
    × (item_count most_window p.head.header.q p.head.header.n ≡ Some (length p.letters))
    × (item_count most_width p.head.header.q p.head.header.k ≡ Some (length p.entries))
