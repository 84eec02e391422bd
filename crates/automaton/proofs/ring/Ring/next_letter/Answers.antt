use Rattle.std.proofs.Common.{sym}
use Rattle.automaton.proofs.Windows.{next-letter-at}
use Rattle.automaton.proofs.ring.Ring.next_letter.Goals as goal

pub returns : goal.returns
returns g c =
    next-letter-at (g.R.Rule.meaning c.args.rule.now) c.args.self.cells.now c.args.i _ _ _ _ _ c.requires.cell (sym c.requires.alphabet) c.n.ensures c.l.ensures c.span_code.ensures c.answer.ensures
