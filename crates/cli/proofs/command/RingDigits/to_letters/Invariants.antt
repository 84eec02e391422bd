use Rattle.std.proofs.Common.{◌≡◌, take, vec_items}
use Rattle.cli.specs.Commands.{letters}
use Rattle.cli.proofs.command.RingDigits.to_letters.Given as goal

abbrev pub invariant-loop-byte : goal.invariant-loop-byte
invariant-loop-byte l = vec_items l.letters ≡ letters (take l.byte-index l.self.text.now)
