use Rattle.std.proofs.Common.{◌≡◌, ◌+◌, ◌<◌, length, Some, ap, sym, ◌∙◌, arith, mod-eq_of_lt}
use Rattle.player.specs.Arcs.{meter}
use Rattle.player.specs.Logs.{arc}
use Rattle.player.proofs.Arcs.{meter_at, arc_more, arc_there}
use Rattle.player.proofs.arc.ArcReading.over.Goals as goal

pub loop-offset-preserved : goal.loop-offset-preserved
loop-offset-preserved g c =
    let K = g.C.Charge.kind in
    let a = c.args in
    let l = c.loop-offset in
    let site = c.site_after in
    let m = c.index-readings-site_after in (
      arc_more K a.readings.now (λ m. m.opening) a.first l.offset site.result m.result l.opening c.plus-opening.result site.ensures.on_ring site.ensures.is m.is l.invariant.0 c.plus-opening.ensures,
      arc_more K a.readings.now (λ m. m.touched) a.first l.offset site.result m.result l.touched c.plus-touched.result site.ensures.on_ring site.ensures.is m.is l.invariant.1 c.plus-touched.ensures,
      arc_more K a.readings.now (λ m. m.now) a.first l.offset site.result m.result l.now c.plus-now.result site.ensures.on_ring site.ensures.is m.is l.invariant.2 c.plus-now.ensures,
    )

pub returns : goal.returns
returns g c =
    let K = g.C.Charge.kind in
    let readings = c.args.readings.now in
    let first = c.args.first in
    let len = c.args.len in
    let l = c.loop-offset in
    let all : l.offset ≡ len = omega arith in
    let here : first < length readings = omega arith in
    let opening = l.invariant.0 ∙ ap (arc K.group (meter K (λ m. m.opening) readings) first) all in
    let into = meter_at K readings (λ m. m.crossed) first first c.index-readings-first.result here (sym (mod-eq_of_lt here)) in
    let out = meter_at K readings (λ m. m.crossed) c.site_after-2.result (first + len) c.index-readings-site_after-2.result c.site_after-2.ensures.on_ring c.site_after-2.ensures.is in
    let touched = l.invariant.1 ∙ ap (arc K.group (meter K (λ m. m.touched) readings) first) all in
    let now = l.invariant.2 ∙ ap (arc K.group (meter K (λ m. m.now) readings) first) all in
    (λ j. Some (record { opening = opening j; into = into j; out = out j; touched = touched j; now = now j }))
    ∙ arc_there first len (length readings) _ here (omega arith)
