use Rattle.std.proofs.Common.{sym}
use Rattle.fault.specs.declared.Stop.TheVariants.{BadEntry}
use Rattle.preset.specs.Entries.{fits}
use Rattle.preset.proofs.PresetLaws.{fits_from}
use Rattle.preset_bench.proofs.charges.fill_charges.Goals as goal

pub write_charges-requires-clause-allowed : goal.write_charges-requires-clause-allowed
write_charges-requires-clause-allowed g c = fits_from (fits g.C.Sent.sending.named) BadEntry 0 c.args.entries.now (sym c.in_ok-check_entries.ensures)
