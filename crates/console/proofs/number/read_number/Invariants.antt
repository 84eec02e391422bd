use Rattle.std.proofs.Common.{◌≡◌, ◌<◌, drop}
use Rattle.console.specs.Numbers.{number_end, digits_after}
use Rattle.console.proofs.number.read_number.Given as goal

abbrev pub invariant-loop-byte : goal.invariant-loop-byte
invariant-loop-byte l = (digits_after 0 l.word ≡ digits_after l.value (drop l.byte-index l.word)) × (l.value < number_end)
