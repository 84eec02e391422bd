use Rattle.std.proofs.Common.{arith}
use Rattle.criterion.proofs.Sizes.{some-letters}
use Rattle.criterion.proofs.Prefixes.{prefix_all, summed_more, summed-crossing}
use Rattle.criterion.proofs.crossings.prefixes_sum.Goals as goal

pub loop-init : goal.loop-init
loop-init g c = (prefix_all (g.L.Label.labels g.C.Charge.kind c.args.label.now).q c.args.v, c.zero-sum.ensures)

pub loop-preserved : goal.loop-preserved
loop-preserved g c =
    let K = g.C.Charge.kind in
    summed_more K (g.L.Label.labels K c.args.label.now) c.args.v c.loop.counter c.loop.prefix c.q-q.result
    c.loop.sum c.label.result c.plus-sum.result c.loop.invariant c.q-q.ensures c.label.ensures c.plus-sum.ensures

pub returns : goal.returns
returns g c =
    let K = g.C.Charge.kind in
    let d = g.L.Label.labels K c.args.label.now in
    summed-crossing K d c.args.v c.loop.counter c.loop.prefix c.loop.sum c.loop.invariant (omega arith) (some-letters d (g.L.Label.lawful K c.args.label.now))
