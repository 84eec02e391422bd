use Rattle.std.proofs.Common.{◌≡◌, ℕ, ◌+◌, ◌-◌, length, slice_index_or, ap₂, ◌∙◌}
use Rattle.automaton.specs.Words.{code, window, cell, before}
use Rattle.criterion.specs.Search.{padding, crossings}
use Rattle.bench.proofs.Searches.{rule_list-same}
use Rattle.bench.proofs.holding.SiteCrossings.at.Goals as goal

pub returns : goal.returns
returns g c =
    let K = g.C.Charge.kind in
    let bench = c.args.self.now.bench.now in
    let r = g.R.Rule.meaning bench.parts.rule in
    let d = g.D.Density.weights K bench.parts.density in
    let ring = c.args.ring in
    let e = bench.sized in
    let s = c.crossing_span.ensures in
    let width : c.crossing_span.result.width ≡ r.n + d.k - 2 = s.1 ∙ ap₂ (λ (n k : ℕ). n + k - 2) e.1 e.3 in
    let reach : c.crossing_span.result.before ≡ r.l = s.0 ∙ e.2 in
    c.crossing.ensures
    ∙ ap₂ (λ t (v : ℕ). slice_index_or (crossings K padding t) v K.group.zero)
    (rule_list-same K bench.sizes r d e.0 e.1 e.2 e.3 e.4)
    (c.span_code.ensures ∙ (λ j. code ring.q (window (width j) (cell ring.cells.now) (before (length ring.cells.now) (reach j) c.args.i))))
