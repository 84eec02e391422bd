-- Letters and entries as they are sent. Assumes nothing.
use Rattle.std.specs.Prelude.{ℕ, ◌+◌, ◌-◌, ◌*◌, ◌/◌, ◌%◌, ◌^◌, Bool, true, false, cond, ◌&&◌, List, [], ◌++◌, length, ℤ, pos, negsuc, Some, None, Ok, Option, ◌==◌, nat_lt}
use Rattle.fault.specs.declared.Stop.TheVariants.{BadLetter, BadEntry}
use Rattle.charge.specs.declared.kind.ChargeKind.{ChargeKind}
use Rattle.charge.specs.declared.kind.ChargeKind.TheVariants.{Voices, Pitch, Channels, Both, Cents}
use Rattle.charge.specs.Ranges.{voices_range, pitch_end, channel_bits, cents_end}
use Rattle.fault.specs.Answers.{and_then}
use Rattle.preset.specs.declared.entry.Entry.{Entry}
use Rattle.preset.specs.Answers.{Parse}
use Rattle.preset.specs.Fields.{field}
use Rattle.preset.specs.Numbers.{number_read, spell}

-- a letter, which is below q
abbrev pub letter : ℕ → ℕ → List ℕ → Parse ℕ
letter q whole bs = field whole 0 q BadLetter bs

-- a signed value v is sent as 2v from zero up, and as -2v - 1 below; `negsuc n` is -(n + 1)
abbrev pub zig : ℤ → ℕ
zig (pos n) = 2 * n
zig (negsuc n) = 2 * n + 1

-- the value that is sent as a number
abbrev pub zag : ℕ → ℤ
zag u = cond (u % 2 == 0) (pos (u / 2)) (negsuc (u / 2))

-- whether a kind has a signed part
abbrev pub signed_part : ChargeKind → Bool
signed_part Voices = true
signed_part Pitch = false
signed_part Channels = false
signed_part Both = true
signed_part Cents = false

-- what the plain part is below, if a kind has one
abbrev pub plain_end : ChargeKind → Option ℕ
plain_end Voices = None
plain_end Pitch = Some pitch_end
plain_end Channels = Some (2 ^ channel_bits)
plain_end Both = Some pitch_end
plain_end Cents = Some cents_end

-- a part that a kind lacks is 0
abbrev pub signed_fits : Bool → ℤ → Bool
signed_fits true z = voices_range z
signed_fits false (pos n) = n == 0
signed_fits false (negsuc n) = false

abbrev pub plain_fits : Option ℕ → ℕ → Bool
plain_fits None p = p == 0
plain_fits (Some end) p = nat_lt p end

-- an entry that its kind allows
abbrev pub fits : ChargeKind → Entry → Bool
fits kind e = signed_fits (signed_part kind) e.signed && plain_fits (plain_end kind) e.plain

-- a part is read as one number, or none
abbrev pub signed_read : Bool → ℕ → List ℕ → Parse ℤ
signed_read true whole bs = and_then (number_read (whole - length bs) bs) (λ p. Ok (zag p.0, p.1))
signed_read false whole bs = Ok (pos 0, bs)

abbrev pub plain_read : Option ℕ → ℕ → List ℕ → Parse ℕ
plain_read None whole bs = Ok (0, bs)
plain_read (Some end) whole bs = field whole 0 end BadEntry bs

-- the signed part first, then the plain part
abbrev pub entry : ChargeKind → ℕ → List ℕ → Parse Entry
entry kind whole bs =
    and_then (signed_read (signed_part kind) whole bs) (λ s.
    and_then (plain_read (plain_end kind) whole s.1) (λ p.
    Ok (record { signed = s.0; plain = p.0 }, p.1)))

-- a part is sent as one number, or none
abbrev pub signed_number : Bool → ℤ → Option ℕ
signed_number true z = Some (zig z)
signed_number false z = None

abbrev pub plain_number : Option ℕ → ℕ → Option ℕ
plain_number None p = None
plain_number (Some end) p = Some p

abbrev pub part_bytes : Option ℕ → List ℕ
part_bytes None = []
part_bytes (Some v) = spell v

-- the bytes of an entry
abbrev pub entry_bytes : ChargeKind → Entry → List ℕ
entry_bytes kind e = part_bytes (signed_number (signed_part kind) e.signed) ++ part_bytes (plain_number (plain_end kind) e.plain)
