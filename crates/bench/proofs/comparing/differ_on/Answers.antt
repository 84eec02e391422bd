use Rattle.std.proofs.Common.{ℕ, subst}
use Rattle.bench.specs.Verdicts.{ShownRing}
use Rattle.bench.proofs.Searches.{not-refused}
use Rattle.bench.proofs.comparing.differ_on.Goals as goal

pub returns-in_err-total : goal.returns-in_err-total
returns-in_err-total g c =
    let K = g.C.Charge.kind in
    absurd (not-refused K (g.D.Density.weights K c.args.first.now) c.args.ring.now c.requires.shown _ c.in_err-total.ensures)

pub returns-in_err-total-2 : goal.returns-in_err-total-2
returns-in_err-total-2 g c =
    let K = g.C.Charge.kind in
    let shows = subst (λ (q : ℕ). ShownRing q c.args.ring.now) c.requires.alike c.requires.shown in
    absurd (not-refused K (g.E.Density.weights K c.args.second.now) c.args.ring.now shows _ c.in_err-total-2.ensures)
