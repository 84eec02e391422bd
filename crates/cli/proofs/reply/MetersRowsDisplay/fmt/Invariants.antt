use Rattle.std.proofs.Common.{take}
use Rattle.std.specs.Fmt.{HasWritten, IsPlainFormatter}
use Rattle.report.specs.Texts.{rows_text}
use Rattle.cli.specs.Replies.{meters_row}
use Rattle.cli.proofs.reply.MetersRowsDisplay.fmt.Given as goal

abbrev pub invariant-loop-site : goal.invariant-loop-site
invariant-loop-site g l =
    IsPlainFormatter l.initial.f → HasWritten g.W.Write.write_str_gives l.initial.f (rows_text (meters_row g.C.Sent.sending) 0 (take l.site l.reading-items)) l.f
