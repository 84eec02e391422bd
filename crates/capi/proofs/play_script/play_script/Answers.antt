use Rattle.std.proofs.Common.{◌<◌, [], map, length, refl, ap, ◌∙◌, subst, arith}
use Rattle.std.specs.Option.{option_map}
use Rattle.std.proofs.lemmas.List.{take_all}
use Rattle.player.specs.Answers.{answer_meant, open_cells}
use Rattle.player.specs.Promises.{all_strips, meant}
use Rattle.player.proofs.Books.{past-set}
use Rattle.capi.specs.Answers.{script_answer}
use Rattle.capi.specs.Scripts.{asks, script_call, session, handed, Obeys}
use Rattle.capi.proofs.Sessions.{session_step, given_more, given_front}
use Rattle.capi.proofs.play_script.play_script.Goals as goal

pub loop-i-init : goal.loop-i-init
loop-i-init g c = (refl, refl, refl, record { given = []; count = refl; said_is = refl; strip_is = refl }, refl)

pub loop-i-preserved : goal.loop-i-preserved
loop-i-preserved g c =
    let K = g.C.Charge.kind in
    let a = c.args in
    let i = c.loop-i.i in
    let r = g.R.Rule.meaning a.bench.parts.rule in
    let d = g.D.Density.weights K a.bench.parts.density in
    let first = handed K a.cells.now a.opening.now a.crossed.now a.touched.now in
    let inv = c.loop-i.invariant in
    let told = c.answer_one-next.ensures in
    let within : i < length a.script.calls.now = omega arith in
    let room : i < length c.loop-i.answers = omega (arith, c.loop-i.auto.answers, c.requires) in
    let said = option_map (answer_meant K) c.answer_one-next.result.1 in
    let was = meant K (all_strips c.loop-i.cells c.loop-i.spare c.loop-i.opening c.loop-i.crossed c.loop-i.touched) in
    let new = c.answer_one-next.new in
    let left = meant K (all_strips new.cells new.spare new.opening new.crossed new.touched) in
    let obeys = subst (λ b. Obeys K (g.R.Rule.meaning b.parts.rule) (g.D.Density.weights K b.parts.density) (open_cells (λ p. p.len) c.loop-i.player) was (asks c.asked-asked.result) said left (open_cells (λ p. p.len) c.answer_one-next.result.0)) inv.0 told.obeys in
    let step = session_step K r d first (script_call a.script.rings.now) a.script.calls.now i _ within (open_cells (λ p. p.len) c.loop-i.player) was left (asks c.asked-asked.result) said (open_cells (λ p. p.len) c.answer_one-next.result.0) inv.1 inv.2 c.asked-asked.ensures obeys in (
      told.bench ∙ inv.0,
      step.2,
      step.1,
      given_more (option_map (answer_meant K)) (script_answer g.C.Sent.sending) _ _ c.loop-i.answers i c.answer_one-next.result.1 said c.script_answer.result room inv.3 refl step.0 c.script_answer.ensures,
      past-set c.loop-i.answers a.answers.now i c.script_answer.result inv.4,
    )

pub returns : goal.returns
returns g c =
    let K = g.C.Charge.kind in
    let a = c.args in
    let r = g.R.Rule.meaning a.bench.parts.rule in
    let d = g.D.Density.weights K a.bench.parts.density in
    let first = handed K a.cells.now a.opening.now a.crossed.now a.touched.now in
    let inv = c.loop-i.invariant in
    let all = take_all c.loop-i.i a.script.calls.now (omega arith) in
    let whole = ap (λ xs. session K r d first (map (script_call a.script.rings.now) xs)) all in
    record {
      given = inv.3.given;
      said = inv.3.said_is ∙ ap (λ p. p.said) whole;
      answers = given_front (option_map (answer_meant K)) (script_answer g.C.Sent.sending) _ c.loop-i.answers a.answers.now c.loop-i.i inv.3 inv.4;
      cells_left = ap (λ s. s.cells) inv.2 ∙ ap (λ p. p.strips.cells) whole;
    }
