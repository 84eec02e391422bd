use Rattle.std.proofs.Common.{◌≡◌}
use Rattle.player.specs.Arcs.{meter}
use Rattle.player.specs.Logs.{arc}
use Rattle.player.proofs.arc.ArcReading.over.Given as goal

abbrev pub invariant-loop-offset : goal.invariant-loop-offset
invariant-loop-offset g l =
    let K = g.C.Charge.kind in
    (K.means l.opening ≡ arc K.group (meter K (λ m. m.opening) l.readings) l.first l.offset)
    × (K.means l.touched ≡ arc K.group (meter K (λ m. m.touched) l.readings) l.first l.offset)
    × (K.means l.now ≡ arc K.group (meter K (λ m. m.now) l.readings) l.first l.offset)
