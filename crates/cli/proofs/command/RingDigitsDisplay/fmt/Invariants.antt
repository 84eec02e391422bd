use Rattle.std.proofs.Common.{take}
use Rattle.std.specs.Fmt.{HasWritten, IsPlainFormatter}
use Rattle.automaton.specs.Shown.{digits}
use Rattle.cli.specs.Commands.{letters}
use Rattle.cli.proofs.command.RingDigitsDisplay.fmt.Given as goal

abbrev pub invariant-loop-byte : goal.invariant-loop-byte
invariant-loop-byte g l =
    IsPlainFormatter l.initial.f → HasWritten g.W.Write.write_str_gives l.initial.f (digits (letters (take l.byte-index l.byte-items))) l.f
