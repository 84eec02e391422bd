use Rattle.std.proofs.Common.{◌≡◌, map, length, take, drop}
use Rattle.std.specs.Option.{option_map}
use Rattle.player.specs.Logs.{standing}
use Rattle.player.specs.Answers.{answer_meant, open_cells, of_player}
use Rattle.player.specs.Promises.{all_strips, meant}
use Rattle.capi.specs.Answers.{script_answer}
use Rattle.capi.specs.Scripts.{script_call, session, handed}
use Rattle.capi.proofs.Sessions.{Given}
use Rattle.capi.proofs.play_script.play_script.Given as goal

abbrev pub invariant-loop-i : goal.invariant-loop-i
invariant-loop-i g l =
    let K = g.C.Charge.kind in
    let bench = l.fn.bench in
    let first = handed K l.initial.cells l.initial.opening l.initial.crossed l.initial.touched in
    let now = session K (g.R.Rule.meaning bench.parts.rule) (g.D.Density.weights K bench.parts.density) first (map (script_call l.script.rings.now) (take l.i l.script.calls.now)) in
    (of_player (λ h. h) (λ p. p.bench) l.player ≡ bench)
    × (open_cells (λ p. p.len) l.player ≡ length (standing now.log).cells)
    × (meant K (all_strips l.cells l.spare l.opening l.crossed l.touched) ≡ now.strips)
    × (Given (option_map (answer_meant K)) (script_answer g.C.Sent.sending) now.said l.answers l.i)
    × (drop l.i l.answers ≡ drop l.i l.initial.answers)
