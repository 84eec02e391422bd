use Rattle.player.specs.Calls.{charges}
use Rattle.player.proofs.HoldingLogs.{holding_logs}
use Rattle.player.proofs.Opens.{opens_does, opens_past}
use Rattle.player.proofs.playing.Playing.open.Goals as goal

pub returns-in-Ok-clause-promise : goal.returns-in-Ok-clause-promise
returns-in-Ok-clause-promise g c =
    let K = g.C.Charge.kind in
    let a = c.args in
    let new = c.open_on.new in
    let left = c.open_on.ensures in
    let passed = c.in-Ok.ensures in
    opens_does K (g.R.Rule.meaning a.bench.parts.rule) (g.D.Density.weights K a.bench.parts.density) a.ring.now c.in-Ok.ring.cells.now a.cells.now new.cells
    a.opening.now a.crossed.now a.touched.now new.opening new.crossed new.touched passed.0 passed.1 left.cells left.opening left.crossed left.touched

pub returns-in-Ok-clause-past : goal.returns-in-Ok-clause-past
returns-in-Ok-clause-past g c =
    let K = g.C.Charge.kind in
    let a = c.args in
    let ring = c.in-Ok.ring.cells.now in
    let r = g.R.Rule.meaning a.bench.parts.rule in
    let d = g.D.Density.weights K a.bench.parts.density in
    let left = c.open_on.ensures in
    let same = c.in-Ok.ensures.1 in (
      opens_past K a.ring.now ring (charges K r d ring) a.opening.now c.open_on.new.opening same left.opening,
      opens_past K a.ring.now ring (λ _. K.group.zero) a.crossed.now c.open_on.new.crossed same left.crossed,
      opens_past K a.ring.now ring (λ _. K.group.zero) a.touched.now c.open_on.new.touched same left.touched,
    )

pub returns-in-Ok-clause-logs : goal.returns-in-Ok-clause-logs
returns-in-Ok-clause-logs g c = holding_logs c.args.bench

pub returns-in-Err-clause-logs : goal.returns-in-Err-clause-logs
returns-in-Err-clause-logs g c = holding_logs c.args.bench
