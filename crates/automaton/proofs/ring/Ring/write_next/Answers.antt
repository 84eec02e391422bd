use Rattle.std.proofs.Common.{refl, ◌∙◌, arith}
use Rattle.automaton.proofs.Windows.{front_more, front-done}
use Rattle.automaton.proofs.Steps.{length-next}
use Rattle.automaton.proofs.ring.Ring.write_next.Goals as goal

pub loop-i-preserved : goal.loop-i-preserved
loop-i-preserved g c =
    let len = length-next (g.R.Rule.meaning c.args.rule.now) c.args.self.cells.now in
    c.write_letter.ensures
    ∙ front_more _ c.args.strip.now c.loop-i.strip c.loop-i.i 0 _ (omega (arith, len)) (omega arith) refl c.loop-i.invariant

pub returns : goal.returns
returns g c =
    let len = length-next (g.R.Rule.meaning c.args.rule.now) c.args.self.cells.now in
    front-done _ c.args.strip.now c.loop-i.strip c.loop-i.i (omega (arith, len)) c.loop-i.invariant
