use Rattle.std.proofs.Common.{ℕ, List, map, take, subst}
use Rattle.automaton.specs.Meanings.{Local, Weights}
use Rattle.criterion.specs.ChargeStrips.{FrontMeans}
use Rattle.player.specs.Calls.{booked, crossing_at}
use Rattle.player.specs.Calls.PlayerCall.{steps}
use Rattle.player.specs.Promises.{meant, step_strips}
use Rattle.player.proofs.Passed.{letters_passed}
use Rattle.player.proofs.playing.Playing.step_on.Goals as goal

pub sites-requires-clause-letters : goal.sites-requires-clause-letters
sites-requires-clause-letters g c =
    let K = g.C.Charge.kind in
    let a = c.args in
    letters_passed (g.R.Rule.meaning a.self.now.bench.parts.rule).q a.self.now.len steps (meant K (step_strips a.cells.now a.spare.now a.crossed.now)) c.requires

pub returns-clause-crossed : goal.returns-clause-crossed
returns-clause-crossed g c =
    let K = g.C.Charge.kind in
    let a = c.args in
    let ring = c.sites.ensures.ring in
    let bench = c.crossings.ensures in
    let at : Local × Weights K.group.Carrier × List ℕ → Type 0 = λ x.
    FrontMeans K (booked K.group (crossing_at K x.0 x.1 x.2) (take a.self.now.len (map K.means a.crossed.now))) a.crossed.now c.book.new.strip in
    subst at (λ j. (g.R.Rule.meaning (bench j).parts.rule, g.D.Density.weights K (bench j).parts.density, ring j)) c.book.ensures
