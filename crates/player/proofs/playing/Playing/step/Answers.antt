use Rattle.std.proofs.Common.{[], sym}
use Rattle.player.proofs.Stepped.{steps_does, steps_past}
use Rattle.player.proofs.playing.Playing.step.Goals as goal

pub returns-clause-promise : goal.returns-clause-promise
returns-clause-promise g c =
    let K = g.C.Charge.kind in
    let a = c.args in
    let parts = a.self.now.bench.parts in
    let new = c.step_on.new in
    let left = c.step_on.ensures in
    steps_does K (g.R.Rule.meaning parts.rule) (g.D.Density.weights K parts.density) a.self.now.len a.cells.now a.spare.now new.cells new.spare a.crossed.now new.crossed
    (sym c.in_ok-check_step.ensures) left.crossed c.step_on.result left.answer left.cells left.spare

pub returns-clause-past : goal.returns-clause-past
returns-clause-past g c =
    let left = c.step_on.ensures in
    steps_past g.C.Charge.kind _ _ _ _ _ [] [] _ _ (sym c.in_ok-check_step.ensures) left.crossed c.step_on.result left.answer
