use Rattle.std.proofs.Common.{◌≡◌, length, take}
use Rattle.fault.specs.Answers.{at_front}
use Rattle.preset.specs.Items.{sent}
use Rattle.preset.proofs.items.put_all.Given as goal

abbrev pub invariant-loop-item : goal.invariant-loop-item
invariant-loop-item g l =
    let bytes = sent (g.T.Encode.bytes l.limits) (take l.item-index l.items) in
    (l.count ≡ length bytes) × (l.out ≡ at_front bytes l.initial.out)
