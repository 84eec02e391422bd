-- The charges that a preset's entries are sent as are written to any strip that has room. Assumes nothing.
use Rattle.std.proofs.Common.{◌≡◌, ℕ, ◌≤◌, true, List, map, length, take, Ok, Err, Result, refl, ◌∙◌, subst}
use Rattle.std.specs.List.{AllByRecursion}
use Rattle.std.proofs.lemmas.Bool.{le-leb}
use Rattle.fault.specs.declared.Fault.{Fault}
use Rattle.fault.specs.declared.Stop.TheVariants.{BadEntry}
use Rattle.fault.specs.Answers.{plainly}
use Rattle.charge.specs.declared.kind.ChargeKind.{ChargeKind}
use Rattle.preset.specs.declared.entry.Entry.{Entry}
use Rattle.preset.specs.Entries.{fits}
use Rattle.preset.proofs.Outcomes.{never}
use Rattle.preset.proofs.PresetLaws.{fits_to}
use Rattle.preset.specs.Sending.{Sending}
use Rattle.preset_bench.specs.Charges.{charges_checked, entries_written, FrontSent}

pub charges_pass : (kind : ChargeKind) (room : ℕ) (entries : List Entry) → length entries ≤ room → AllByRecursion (λ e. fits kind e ≡ true) entries
    → charges_checked kind room entries ≡ Ok tt
charges_pass kind room entries some all = rw (le-leb (length entries) room some) (fits_to (fits kind) BadEntry 0 entries all)

passed_is : (r : Result (Unit {0}) Fault) → plainly r ≡ Ok tt → r ≡ Ok tt
passed_is (Ok t) e = refl
passed_is (Err f) e = never e

pub filled : (kind : ChargeKind) (room : ℕ) (entries : List Entry) (r : Result (Unit {0}) Fault) → plainly r ≡ charges_checked kind room entries
    → length entries ≤ room → AllByRecursion (λ e. fits kind e ≡ true) entries → r ≡ Ok tt
filled kind room entries r said some all = passed_is r (said ∙ charges_pass kind room entries some all)

-- what is then at the front of the strip
pub filled-sent : {C : Type 0} (S : Sending C) (entries : List Entry) (old new : List C) → length entries ≤ length old → AllByRecursion (λ e. fits S.named e ≡ true) entries
    → FrontSent S (entries_written (charges_checked S.named (length old) entries) entries) old new → map S.entry (take (length entries) new) ≡ entries
filled-sent S entries old new some all front =
    subst (λ w. map S.entry (take (length (entries_written w entries)) new) ≡ entries_written w entries) (charges_pass S.named (length old) entries some all) front.0
