use Rattle.charge.specs.declared.kind.ChargeKind.TheVariants as kind
use Rattle.preset.specs.Loads.{preset_of}
use Rattle.capi.specs.Scripts.{script_asks}
use Rattle.capi.proofs.OfKind.{played_as}
use Rattle.capi.proofs.play_preset.play_kind.Goals as goal

pub returns-in-Voices : goal.returns-in-Voices
returns-in-Voices c = played_as c.args.preset.kind kind.Voices (preset_of c.args.preset) (script_asks c.args.script) c.args.cells.now c.play_voices.new.cells c.args.answers.now c.play_voices.new.answers c.play_voices.result c.in-Voices.is c.play_voices.ensures

pub returns-in-Pitch : goal.returns-in-Pitch
returns-in-Pitch c = played_as c.args.preset.kind kind.Pitch (preset_of c.args.preset) (script_asks c.args.script) c.args.cells.now c.play_pitch.new.cells c.args.answers.now c.play_pitch.new.answers c.play_pitch.result c.in-Pitch.is c.play_pitch.ensures

pub returns-in-Channels : goal.returns-in-Channels
returns-in-Channels c = played_as c.args.preset.kind kind.Channels (preset_of c.args.preset) (script_asks c.args.script) c.args.cells.now c.play_channels.new.cells c.args.answers.now c.play_channels.new.answers c.play_channels.result c.in-Channels.is c.play_channels.ensures

pub returns-in-Both : goal.returns-in-Both
returns-in-Both c = played_as c.args.preset.kind kind.Both (preset_of c.args.preset) (script_asks c.args.script) c.args.cells.now c.play_both.new.cells c.args.answers.now c.play_both.new.answers c.play_both.result c.in-Both.is c.play_both.ensures

pub returns-in-Cents : goal.returns-in-Cents
returns-in-Cents c = played_as c.args.preset.kind kind.Cents (preset_of c.args.preset) (script_asks c.args.script) c.args.cells.now c.play_cents.new.cells c.args.answers.now c.play_cents.new.answers c.play_cents.result c.in-Cents.is c.play_cents.ensures
