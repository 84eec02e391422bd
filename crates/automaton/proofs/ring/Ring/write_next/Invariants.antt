use Rattle.std.proofs.Common.{◌≡◌, ◌++◌, take, drop}
use Rattle.automaton.specs.Meanings.{next}
use Rattle.automaton.proofs.ring.Ring.write_next.Given as goal

abbrev pub invariant-loop-i : goal.invariant-loop-i
invariant-loop-i g l = l.strip ≡ take l.i (next (g.R.Rule.meaning l.rule) l.self.cells.now) ++ drop l.i l.initial.strip
