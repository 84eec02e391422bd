use Rattle.std.proofs.Common.{ap, ◌∙◌}
use Rattle.automaton.specs.Words.{code, window, cell}
use Rattle.automaton.proofs.Windows.{span-round}
use Rattle.automaton.proofs.ring.Ring.span_code.Goals as goal

pub returns : goal.returns
returns c =
    let r = c.args.self in
    c.code_from.ensures
    ∙ ap (λ i. code r.q (window c.args.span.width (cell r.cells.now) i)) c.index_before.ensures
    ∙ ap (code r.q) (span-round c.args.span.width r.cells.now c.args.span.before c.args.i r.some)
