-- How a preset is written. Assumes nothing.
use Rattle.std.specs.Prelude.{ℕ, suc, ◌+◌, ◌-◌, ◌^◌, Bool, cond, ◌&&◌, List, [], ◌∷◌, ◌++◌, length, take, Ok, Err, Result, nat_le, nat_lt}
use Rattle.std.specs.Option.{ok_or}
use Rattle.fault.specs.declared.Stop.{Stop}
use Rattle.fault.specs.declared.Stop.TheVariants.{UnknownKind, BadAlphabet, BadWindow, BadReach, BadWidth, TooManyWords, ShortStrip, BadLetter, BadEntry}
use Rattle.fault.specs.Limits.{least_letters, most_letters, most_window, most_width, within, few_words}
use Rattle.fault.specs.Refusals.{Refusal, refused_at}
use Rattle.charge.specs.Numbers.{kind_of}
use Rattle.fault.specs.Answers.{and_then}
use Rattle.fault.specs.Checks.{tested, each_fits}
use Rattle.preset.specs.declared.entry.Entry.{Entry}
use Rattle.preset.specs.declared.header.Header.{Header}
use Rattle.preset.specs.Entries.{entry_bytes, fits}
use Rattle.preset.specs.Items.{sent}
use Rattle.preset.specs.Numbers.{spell}
use Rattle.preset.specs.Presets.{PresetHead, Preset}

-- what the sizes of a header are held to, in the order of the stop codes
abbrev pub size_tests : Header → List (Bool × Stop)
size_tests h =
    (within least_letters (suc most_letters) h.q, BadAlphabet)
    ∷ (within 1 (suc most_window) h.n, BadWindow)
    ∷ (nat_lt h.l h.n, BadReach)
    ∷ (within 1 (suc most_width) h.k, BadWidth)
    ∷ (few_words h.q (h.n + h.k - 1), TooManyWords)
    ∷ []

-- a header that may be written, with the kind that it names
abbrev pub head_checked : Header → Result PresetHead Refusal
head_checked h =
    and_then (ok_or (kind_of h.kind) (refused_at UnknownKind 0)) (λ kind.
    and_then (tested (size_tests h)) (λ _. Ok (record { kind = kind; header = h })))

-- the letters and entries that belong to a header, from the front of strips that may be longer
abbrev pub header_fronts : PresetHead → List ℕ → List Entry → Preset
header_fronts h letters entries =
    record { head = h; letters = take (h.header.q ^ h.header.n) letters; entries = take (h.header.q ^ h.header.k) entries }

abbrev pub strips_checked : PresetHead → List ℕ → List Entry → Result Preset Refusal
strips_checked h letters entries =
    cond (nat_le (h.header.q ^ h.header.n) (length letters) && nat_le (h.header.q ^ h.header.k) (length entries))
    (Ok (header_fronts h letters entries))
    (Err (refused_at ShortStrip 0))

-- each letter and each entry of a preset is allowed
abbrev pub contents_checked : Preset → Result (Unit {0}) Refusal
contents_checked p =
    and_then (each_fits (λ x. nat_lt x p.head.header.q) BadLetter 0 p.letters) (λ _.
    each_fits (fits p.head.kind) BadEntry 0 p.entries)

-- the preset that a header and two strips give, or the first refusal
abbrev pub preset_to_write : Header → List ℕ → List Entry → Result Preset Refusal
preset_to_write h letters entries =
    and_then (head_checked h) (λ head.
    and_then (strips_checked head letters entries) (λ p.
    and_then (contents_checked p) (λ _. Ok p)))

-- the numbers of a header, and the bytes of a preset
abbrev pub header_numbers : Header → List ℕ
header_numbers h = h.kind ∷ h.q ∷ h.n ∷ h.l ∷ h.k ∷ []

abbrev pub preset_bytes : Preset → List ℕ
preset_bytes p = sent spell (header_numbers p.head.header) ++ (sent spell p.letters ++ sent (entry_bytes p.head.kind) p.entries)

-- Writing to a byte strip, which is tested last: the bytes that stand at its front afterwards, or a refusal.
abbrev pub with_byte_room : ℕ → List ℕ → Result (List ℕ) Refusal
with_byte_room room bytes = cond (nat_le (length bytes) room) (Ok bytes) (Err (refused_at ShortStrip 0))

abbrev pub writing : Header → List ℕ → List Entry → List ℕ → Result (List ℕ) Refusal
writing h letters entries out = and_then (preset_to_write h letters entries) (λ p. with_byte_room (length out) (preset_bytes p))

-- how many bytes were written
abbrev pub written : Result (List ℕ) Refusal → Result ℕ Refusal
written r = and_then r (λ bytes. Ok (length bytes))
