use Rattle.criterion.proofs.Failing.{fails-at}
use Rattle.criterion.proofs.search.fails.Goals as goal

pub returns : goal.returns
returns g c =
    let K = g.C.Charge.kind in
    let label = c.args.label.now in
    fails-at K (g.L.Label.labels K label) (g.L.Label.lawful K label) c.args.code
    c.args.crossings.now c.args.head c.index-crossings-head.result c.index-crossings-code.result c.difference-crosses.result c.labelled.result
    c.requires.filled c.requires.prefix.0 c.requires.prefix.1
    c.index-crossings-head.is c.index-crossings-code.is c.difference-crosses.ensures c.labelled.ensures
