use Rattle.std.proofs.Common.{◌≡◌, ◌+◌, ◌*◌, ◌^◌, ◌<◌, ◌≤◌, length, get_or, take, drop}
use Rattle.preset.specs.Numbers.{tops, value}
use Rattle.preset.proofs.number.read_number.Given as goal

abbrev pub invariant-loop : goal.invariant-loop
invariant-loop l =
    (l.rest ≡ drop l.counter l.input)
    × (l.counter ≤ length l.input)
    × (tops l.input ≡ l.counter + tops l.rest)
    × (l.value ≡ value (take l.counter l.input))
    × (l.value < 2 ^ (7 * l.counter))
    × (get_or l.input 0 0 ≡ 128 → ⊥)
