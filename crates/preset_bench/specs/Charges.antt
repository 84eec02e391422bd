-- The entries of a preset as charges on a strip. Assumes nothing.
use Rattle.std.specs.Prelude.{◌≡◌, ℕ, List, map, length, take, drop, [], ◌∷◌, Ok, Err, Result, nat_le}
use Rattle.fault.specs.declared.Stop.TheVariants.{ShortStrip, BadEntry}
use Rattle.fault.specs.Answers.{and_then}
use Rattle.fault.specs.Checks.{tested, each_fits}
use Rattle.fault.specs.Refusals.{Refusal}
use Rattle.charge.specs.declared.kind.ChargeKind.{ChargeKind}
use Rattle.preset.specs.declared.entry.Entry.{Entry}
use Rattle.preset.specs.Entries.{fits}
use Rattle.preset.specs.Sending.{Sending}

-- charges need a strip that has room for one an entry, and entries that their kind allows
abbrev pub charges_checked : ChargeKind → ℕ → List Entry → Result (Unit {0}) Refusal
charges_checked kind room entries =
    and_then (tested ((nat_le (length entries) room, ShortStrip) ∷ [])) (λ _. each_fits (fits kind) BadEntry 0 entries)

-- the entries whose charges are written: none where the call is refused
abbrev pub entries_written : Result (Unit {0}) Refusal → List Entry → List Entry
entries_written (Ok t) entries = entries
entries_written (Err f) entries = []

-- charges that are sent as the entries stand at the front of a strip, whose other charges stay
abbrev pub FrontSent : {C : Type 0} → Sending C → List Entry → List C → List C → Type 0
FrontSent S entries old new = (map S.entry (take (length entries) new) ≡ entries) × (drop (length entries) new ≡ drop (length entries) old)
