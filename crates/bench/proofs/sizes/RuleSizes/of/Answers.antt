use Rattle.std.proofs.Common.{ℕ, ◌+◌, ◌-◌, ◌^◌, ◌<◌, ◌≤◌, arith}
use Rattle.automaton.proofs.Codes.{power-some}
use Rattle.bench.proofs.Fits.{words_sizes, part_few}
use Rattle.bench.proofs.sizes.RuleSizes.of.Goals as goal

pub invariant_of-words : goal.invariant_of-words
invariant_of-words g c =
    let lawful = g.R.Rule.lawful c.args.parts.now.rule in
    let weighed = g.D.Density.lawful g.C.Charge.kind c.args.parts.now.density in
    let rule = lawful.sizes in
    let density = weighed.sizes in
    let p = words_sizes _ _ _ _ (omega arith) (omega arith) (omega arith) c.in_ok-count.ensures in
    record { sizes = p.0; few = p.1; counted = p.2 }

pub pow-requires : goal.pow-requires
pow-requires g c =
    let rule = (g.R.Rule.lawful c.args.parts.now.rule).sizes in
    let density = (g.D.Density.lawful g.C.Charge.kind c.args.parts.now.density).sizes in
    let m : ℕ = c.n-n.result + c.k-k.result - 1 in
    let few : c.q-q.result ^ m ≤ 4096 = (words_sizes c.q-q.result c.q.result m c.in_ok-count.count (omega arith) (omega arith) (omega arith) c.in_ok-count.ensures).1 in
    omega (arith, part_few c.q-q.result c.n-n.result m (omega arith) (omega arith) few)

pub invariant_of-result-clause-divides : goal.invariant_of-result-clause-divides
invariant_of-result-clause-divides g c =
    let lawful = g.R.Rule.lawful c.args.parts.now.rule in
    let some : 0 < c.q-q.result = omega (arith, lawful.sizes.0, c.q-q.ensures) in
    (omega (arith, c.pow.ensures, power-some c.q-q.result some c.n-n.result), omega (arith, c.pow-2.ensures, power-some c.q-q.result some (c.k-k.result - 1)))
