use Rattle.charge.specs.declared.kind.ChargeKind.TheVariants as kind
use Rattle.preset.specs.Loads.{preset_of}
use Rattle.capi.proofs.Zeroed.{played-zeroed}
use Rattle.capi.proofs.play_preset.play_cents.Goals as goal

pub returns : goal.returns
returns c = played-zeroed kind.Cents (preset_of c.args.preset) _ c.args.cells.now _ _ _ _ c.zero-zero.result c.zero-zero.ensures c.play_charges.ensures
