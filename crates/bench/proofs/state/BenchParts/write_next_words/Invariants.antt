use Rattle.std.proofs.Common.{◌≡◌, ◌*◌, max, length}
use Rattle.bench.specs.KeptSizes.{KnowsNext}
use Rattle.bench.proofs.state.BenchParts.write_next_words.Given as goal

abbrev pub invariant-loop-head : goal.invariant-loop-head
invariant-loop-head g l =
    (length l.strip ≡ l.fn.sizes.words.count) × KnowsNext l.fn.sizes (g.R.Rule.meaning l.self.rule) (max 1 (l.head * l.fn.sizes.words.q)) l.strip
