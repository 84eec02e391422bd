use Rattle.std.proofs.Common.{◌≡◌, ◌+◌, max, length}
use Rattle.bench.specs.KeptSizes.{KnowsNext}
use Rattle.bench.proofs.state.BenchParts.extend.Given as goal

abbrev pub invariant-loop-last : goal.invariant-loop-last
invariant-loop-last g l =
    (length l.strip ≡ l.fn.sizes.words.count) × KnowsNext l.fn.sizes (g.R.Rule.meaning l.self.rule) (max 1 (l.first + l.last)) l.strip
