use Rattle.std.proofs.Common.{sym}
use Rattle.player.proofs.Touches.{touches_does, touches_past}
use Rattle.player.proofs.playing.Playing.touch.Goals as goal

pub returns-clause-promise : goal.returns-clause-promise
returns-clause-promise g c =
    let K = g.C.Charge.kind in
    let a = c.args in
    let parts = a.self.now.bench.parts in
    let left = c.touch_on.ensures in
    touches_does K (g.R.Rule.meaning parts.rule) (g.D.Density.weights K parts.density) a.self.now.len a.site a.letter a.cells.now c.touch_on.new.cells a.touched.now c.touch_on.new.touched
    (sym c.in_ok-check_touch.ensures) left.touched left.cells

pub returns-clause-past : goal.returns-clause-past
returns-clause-past g c =
    let K = g.C.Charge.kind in
    let a = c.args in
    let parts = a.self.now.bench.parts in
    touches_past K (g.R.Rule.meaning parts.rule) (g.D.Density.weights K parts.density) a.self.now.len a.site a.letter a.cells.now c.touch_on.new.cells a.touched.now c.touch_on.new.touched
    (sym c.in_ok-check_touch.ensures) c.touch_on.ensures.touched
