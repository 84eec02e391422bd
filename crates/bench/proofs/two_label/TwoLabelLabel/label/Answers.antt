use Rattle.std.proofs.Common.{arith}
use Rattle.bench.proofs.Coded.{two-entry, two-past}
use Rattle.bench.proofs.two_label.TwoLabelLabel.label.Goals as goal

pub returns-then-code-self : goal.returns-then-code-self
returns-then-code-self g c =
    let K = g.C.Charge.kind in
    let t = c.args.self.now in
    two-past K.group t.sizes (g.D.Density.weights K t.first.now) (g.E.Density.weights K t.second.now) c.args.code _ (omega arith) c.zero.ensures

pub returns : goal.returns
returns g c =
    let K = g.C.Charge.kind in
    let t = c.args.self.now in
    two-entry K.group t.sizes (g.D.Density.weights K t.first.now) (g.E.Density.weights K t.second.now) c.args.code _ _ _ _ _
    (omega arith) c.code.ensures c.code-2.ensures c.charge-weighed.ensures c.charge-less.ensures c.difference.ensures
