use Rattle.std.proofs.Common.{sym}
use Rattle.automaton.proofs.Passes.{ring-letters}
use Rattle.automaton.proofs.ring.Ring.try_new.Goals as goal

pub invariant_of-result-clause-letters : goal.invariant_of-result-clause-letters
invariant_of-result-clause-letters c = ring-letters c.args.q c.args.cells.now (sym c.in_ok-check_each.ensures)
