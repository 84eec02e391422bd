use Rattle.std.proofs.Common.{◌≡◌, ◌-◌}
use Rattle.automaton.specs.Words.{code, window, cell}
use Rattle.automaton.proofs.ring.Ring.code_from.Given as goal

abbrev pub invariant-loop-i : goal.invariant-loop-i
invariant-loop-i l = l.code ≡ code l.self.q (window (l.i - l.start) (cell l.self.cells.now) l.start)
