use Rattle.std.proofs.Common.{◌≡◌, drop}
use Rattle.cli.specs.ShownArguments.{no_controls}
use Rattle.cli.proofs.shown.no_controls.Given as goal

abbrev pub invariant-loop-byte : goal.invariant-loop-byte
invariant-loop-byte l = no_controls l.word ≡ no_controls (drop l.byte-index l.word)
