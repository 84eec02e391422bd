use Rattle.std.proofs.Common.{map, set, ap, ◌∙◌}
use Rattle.std.proofs.lemmas.List.{map-set}
use Rattle.player.proofs.ledger.Ledger.add.Goals as goal

pub returns-clause-sites : goal.returns-clause-sites
returns-clause-sites g c =
    let K = g.C.Charge.kind in
    let i = c.args.i in
    let old = c.args.self.now.sites.now in
    let sum = c.sum_at-sum.result in
    ap (map K.means) (c.put.ensures.sites ∙ ap (λ l. set l.sites.now i sum) c.sum_at-sum.ensures.kept)
    ∙ map-set K.means old i sum
    ∙ ap (λ x. set (map K.means old) i x) c.sum_at-sum.ensures.answer
