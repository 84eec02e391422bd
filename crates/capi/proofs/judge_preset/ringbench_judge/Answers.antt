use Rattle.std.proofs.Common.{sym}
use Rattle.capi.proofs.judge_preset.ringbench_judge.Goals as goal

pub returns-in-Ok : goal.returns-in-Ok
returns-in-Ok c = rw (sym c.in-Ok.ensures.answer) c.judge_kind.ensures
