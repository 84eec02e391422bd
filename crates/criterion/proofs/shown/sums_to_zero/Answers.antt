use Rattle.std.proofs.Common.{Ok, ap}
use Rattle.criterion.proofs.RingShown.{not-refused, zero-tested}
use Rattle.criterion.proofs.shown.sums_to_zero.Goals as goal

pub returns-in_err-sum : goal.returns-in_err-sum
returns-in_err-sum g c =
    let K = g.C.Charge.kind in
    absurd (not-refused K (g.L.Label.labels K c.args.label.now) c.args.ring.now c.requires.length.0 c.requires.length.1 c.requires.letters _ c.in_err-sum.ensures)

pub returns : goal.returns
returns g c =
    let K = g.C.Charge.kind in
    ap Ok (zero-tested K (g.L.Label.labels K c.args.label.now) c.args.ring.now c.requires.length.0 c.requires.length.1 c.requires.letters
    c.in_ok-sum.sum c.zero.result c.same.result c.in_ok-sum.ensures c.zero.ensures c.same.ensures)
