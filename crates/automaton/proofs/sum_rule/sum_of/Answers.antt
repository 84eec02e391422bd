use Rattle.std.proofs.Common.{mod-lt, arith}
use Rattle.automaton.proofs.Lookups.{sum_more}
use Rattle.automaton.proofs.sum_rule.sum_of.Goals as goal

pub loop-preserved : goal.loop-preserved
loop-preserved c =
    let w = c.args.words in
    let sizes = w.sizes in (
      omega (arith, mod-lt c.loop.front {m = w.q} (omega arith)),
      sum_more w.q w.m c.loop.counter c.loop.front c.loop.sum _ c.loop-test.true c.loop.invariant.1,
    )
