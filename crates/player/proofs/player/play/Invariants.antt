use Rattle.std.proofs.Common.{◌≡◌, map, length, take, drop}
use Rattle.std.specs.Option.{option_map}
use Rattle.player.specs.Logs.{standing}
use Rattle.player.specs.Answers.{call_meant, answer_meant, open_cells, of_player}
use Rattle.player.specs.Promises.{all_strips, meant}
use Rattle.player.specs.Scripts.{played}
use Rattle.player.proofs.Staying.{Stayed}
use Rattle.player.proofs.player.play.Given as goal

abbrev pub invariant-loop-i : goal.invariant-loop-i
invariant-loop-i g l =
    let K = g.C.Charge.kind in
    let bench = l.fn.bench in
    let first = meant K (all_strips l.initial.cells l.initial.spare l.initial.opening l.initial.crossed l.initial.touched) in
    let now = played K (g.R.Rule.meaning bench.parts.rule) (g.D.Density.weights K bench.parts.density) first (map call_meant (take l.i l.script)) in
    (of_player (λ h. h) (λ p. p.bench) l.player ≡ bench)
    × (open_cells (λ p. p.len) l.player ≡ length (standing now.log).cells)
    × (meant K (all_strips l.cells l.spare l.opening l.crossed l.touched) ≡ now.strips)
    × (map (option_map (answer_meant K)) (take l.i l.answers) ≡ now.said)
    × (drop l.i l.answers ≡ drop l.i l.initial.answers)
    × Stayed K (g.R.Rule.meaning bench.parts.rule) (g.D.Density.weights K bench.parts.density) now
    (all_strips l.initial.cells l.initial.spare l.initial.opening l.initial.crossed l.initial.touched) (all_strips l.cells l.spare l.opening l.crossed l.touched)
