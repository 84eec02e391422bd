use Rattle.criterion.proofs.Sizes.{heads_fit}
use Rattle.criterion.proofs.crossings.head_count.Goals as goal

pub pow-requires : goal.pow-requires
pow-requires g c =
    let K = g.C.Charge.kind in
    let label = c.args.label.now in
    heads_fit (g.L.Label.labels K label) (g.L.Label.lawful K label) c.q.result c.m.result c.q.ensures c.m.ensures
