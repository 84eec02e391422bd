use Rattle.std.proofs.Common.{◌≡◌}
use Rattle.charge.specs.Groups.{sum_over}
use Rattle.automaton.specs.Meanings.{site, booking_offset}
use Rattle.automaton.proofs.ring.Ring.sum_sites.Given as goal

abbrev pub invariant-loop-i : goal.invariant-loop-i
invariant-loop-i g l =
    let K = g.C.Charge.kind in
    K.means l.sum ≡ sum_over K.group (site K.group booking_offset (g.D.Density.weights K l.density) l.self.cells.now) l.i
