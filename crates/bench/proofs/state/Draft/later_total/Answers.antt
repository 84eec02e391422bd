use Rattle.std.proofs.Common.{ℕ, replicate, sym, refl, ◌∙◌}
use Rattle.bench.proofs.Searches.{next-given, later_is}
use Rattle.bench.proofs.state.Draft.later_total.Goals as goal

pub returns-in_err-next_ring : goal.returns-in_err-next_ring
returns-in_err-next_ring g c =
    absurd (next-given (g.R.Rule.meaning c.args.self.now.parts.rule) c.args.ring.now c.requires (replicate {A = ℕ} 23 0) refl _ c.in_err-next_ring.ensures.answer)

pub returns : goal.returns
returns g c =
    let draft = c.args.self.now in
    let parts = draft.parts in
    let K = g.C.Charge.kind in
    c.total.ensures
    ∙ later_is (g.R.Rule.meaning parts.rule) c.args.ring.now c.requires (replicate {A = ℕ} 23 0) refl K (g.D.Density.weights K parts.density) (g.R.Rule.lawful parts.rule) (sym draft.sized.0 ∙ draft.sized.4) _ c.next_ring.ensures.strip
