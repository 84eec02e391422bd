use Rattle.std.proofs.Common.{◌≡◌, ◌-◌, true, take, is_ok}
use Rattle.preset.specs.Answers.{many}
use Rattle.preset.proofs.Turns.{ahead}
use Rattle.preset.proofs.items.fill.Given as goal

abbrev pub invariant-loop-item : goal.invariant-loop-item
invariant-loop-item g l =
    let read = g.T.PresetItem.format.reads l.limits l.fn.input.whole in
    (l.input.whole ≡ l.fn.input.whole)
    × (many read l.count l.fn.input.bytes.now ≡ ahead (take l.item-index l.item-items) (many read (l.count - l.item-index) l.input.bytes.now))
    × (is_ok (many read (l.count - l.item-index) l.input.bytes.now) ≡ true)
