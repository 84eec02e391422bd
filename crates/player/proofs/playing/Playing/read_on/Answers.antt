use Rattle.player.specs.Calls.PlayerCall.{reads}
use Rattle.player.specs.Promises.{meant, meter_strips}
use Rattle.player.proofs.Passed.{letters_passed}
use Rattle.player.proofs.playing.Playing.read_on.Goals as goal

pub sites-requires-clause-letters : goal.sites-requires-clause-letters
sites-requires-clause-letters g c =
    let K = g.C.Charge.kind in
    let a = c.args in
    letters_passed (g.R.Rule.meaning a.self.now.bench.parts.rule).q a.self.now.len (reads a.site) (meant K (meter_strips a.cells.now a.opening.now a.crossed.now a.touched.now)) c.requires
