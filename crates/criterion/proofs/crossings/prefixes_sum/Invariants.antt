use Rattle.criterion.proofs.Prefixes.{Summed}
use Rattle.criterion.proofs.crossings.prefixes_sum.Given as goal

abbrev pub invariant-loop : goal.invariant-loop
invariant-loop g l =
    let K = g.C.Charge.kind in
    Summed K (g.L.Label.labels K l.label) l.v l.counter l.prefix l.sum
