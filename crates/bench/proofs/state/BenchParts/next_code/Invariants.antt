use Rattle.bench.specs.KeptSizes.{sized_rule}
use Rattle.bench.proofs.Nexts.{Tail}
use Rattle.bench.proofs.state.BenchParts.next_code.Given as goal

abbrev pub invariant-loop : goal.invariant-loop
invariant-loop g l = Tail (sized_rule l.sizes (g.R.Rule.meaning l.self.rule)) l.sizes.k l.code l.counter l.prefix l.place l.next
