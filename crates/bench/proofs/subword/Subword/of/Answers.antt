use Rattle.std.proofs.Common.{arith}
use Rattle.fault.proofs.Powers.{power_bound}
use Rattle.automaton.proofs.Codes.{power-some}
use Rattle.bench.proofs.subword.Subword.of.Goals as goal

pub pow-requires : goal.pow-requires
pow-requires c =
    let w = c.args.words in
    let sizes = w.sizes in
    omega (arith, power_bound w.q c.args.after sizes.1 (omega arith))

pub pow-requires-2 : goal.pow-requires-2
pow-requires-2 c =
    let w = c.args.words in
    let sizes = w.sizes in
    omega (arith, power_bound w.q c.args.letters sizes.1 (omega arith))

pub invariant_of-result : goal.invariant_of-result
invariant_of-result c =
    let w = c.args.words in
    let sizes = w.sizes in
    let some = power-some w.q (omega arith) in
    record { some = (omega (arith, c.pow.ensures, some c.args.after), omega (arith, c.pow-2.ensures, some c.args.letters)) }
