use Rattle.std.proofs.Common.{ℕ, sym, ◌∙◌, subst}
use Rattle.bench.specs.Verdicts.{ShownRing}
use Rattle.bench.proofs.Searches.{not-refused}
use Rattle.bench.proofs.state.Draft.break_on.Goals as goal

pub returns-in_err-total : goal.returns-in_err-total
returns-in_err-total g c =
    let K = g.C.Charge.kind in
    let draft = c.args.self.now in
    let shows = subst (λ (q : ℕ). ShownRing q c.args.ring.now) (sym draft.sized.0 ∙ draft.sized.4) c.requires in
    absurd (not-refused K (g.D.Density.weights K draft.parts.density) c.args.ring.now shows _ c.in_err-total.ensures)
