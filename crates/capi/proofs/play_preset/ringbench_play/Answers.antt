use Rattle.std.proofs.Common.{sym}
use Rattle.capi.proofs.play_preset.ringbench_play.Goals as goal

pub returns-in-Ok : goal.returns-in-Ok
returns-in-Ok c = rw (sym c.in-Ok.ensures.answer) c.play_kind.ensures
