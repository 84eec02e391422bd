use Rattle.std.proofs.Common.{ℕ, get_or, length, ap, sym, ◌∙◌, arith}
use Rattle.charge.specs.Groups.{sum_over}
use Rattle.charge.proofs.Sums.{sum_more}
use Rattle.automaton.specs.Words.{code, window, cell, before}
use Rattle.automaton.specs.Meanings.{site, booking_offset}
use Rattle.automaton.proofs.ring.Ring.sum_sites.Goals as goal

pub loop-i-preserved : goal.loop-i-preserved
loop-i-preserved g c =
    let K = g.C.Charge.kind in
    let d = g.D.Density.weights K c.args.density.now in
    let cells = c.args.self.cells.now in
    let at = λ (q : ℕ). get_or d.charges (code q (window d.k (cell cells) (before (length cells) booking_offset c.loop-i.i))) K.group.zero in
    c.plus-sum.ensures
    ∙ sum_more K.group (site K.group booking_offset d cells) c.loop-i.i _ _ c.loop-i.invariant (c.site_charge.ensures ∙ ap at (sym c.requires))

pub returns : goal.returns
returns g c =
    let K = g.C.Charge.kind in
    c.loop-i.invariant ∙ ap (sum_over K.group (site K.group booking_offset (g.D.Density.weights K c.args.density.now) c.args.self.cells.now)) (omega arith)
