use Rattle.std.proofs.Common.{◌≡◌, ◌-◌}
use Rattle.preset.specs.Answers.{many, skipped}
use Rattle.preset.proofs.items.skip.Given as goal

abbrev pub invariant-loop : goal.invariant-loop
invariant-loop g l =
    let read = g.T.PresetItem.format.reads l.limits l.fn.input.whole in
    (l.input.whole ≡ l.fn.input.whole)
    × (skipped (many read l.count l.fn.input.bytes.now) ≡ skipped (many read (l.count - l.counter) l.input.bytes.now))
