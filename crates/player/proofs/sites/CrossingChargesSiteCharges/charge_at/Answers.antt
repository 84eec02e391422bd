use Rattle.std.proofs.Common.{◌∙◌, arith}
use Rattle.player.proofs.Crossings.{crossing-code}
use Rattle.player.proofs.sites.CrossingChargesSiteCharges.charge_at.Goals as goal

pub returns : goal.returns
returns g c =
    let K = g.C.Charge.kind in
    let s = c.args.self.now in
    let bench = s.crossings.bench.now in
    let lawful = g.R.Rule.lawful bench.parts.rule in
    let sizes = lawful.sizes in
    c.at.ensures
    ∙ crossing-code K (g.R.Rule.meaning bench.parts.rule) (g.D.Density.weights K bench.parts.density) s.ring.q s.ring.cells.now c.args.i
    s.alphabet (omega (arith, sizes.0, s.alphabet)) s.ring.some s.ring.letters
