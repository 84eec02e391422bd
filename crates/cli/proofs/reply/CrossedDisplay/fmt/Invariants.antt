use Rattle.std.proofs.Common.{take}
use Rattle.std.specs.Fmt.{HasWritten, IsPlainFormatter}
use Rattle.console.specs.Pages.{spaced}
use Rattle.cli.specs.Replies.{charge_text}
use Rattle.cli.proofs.reply.CrossedDisplay.fmt.Given as goal

abbrev pub invariant-loop-charge : goal.invariant-loop-charge
invariant-loop-charge g l =
    IsPlainFormatter l.initial.f → HasWritten g.W.Write.write_str_gives l.initial.f (spaced (charge_text g.C.Sent.sending) (take l.charge-index l.charge-items)) l.f
