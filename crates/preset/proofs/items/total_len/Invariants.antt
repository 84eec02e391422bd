use Rattle.std.proofs.Common.{◌≡◌, ◌*◌, ◌≤◌, length, take}
use Rattle.preset.specs.Items.{sent}
use Rattle.preset.proofs.items.total_len.Given as goal

abbrev pub invariant-loop-item : goal.invariant-loop-item
invariant-loop-item g l =
    (l.count ≡ length (sent (g.T.Encode.bytes l.limits) (take l.item-index l.items)))
    × (l.count ≤ 20 * l.item-index)
