use Rattle.std.proofs.Common.{◌<◌, map, length, take, get_or, sym, ap, ◌∙◌, subst, arith}
use Rattle.std.specs.Option.{option_map}
use Rattle.player.specs.Logs.{standing}
use Rattle.player.specs.Answers.{call_meant, answer_meant}
use Rattle.player.specs.Obeying.{written_after, StaysPast}
use Rattle.player.specs.Promises.{all_strips, meant}
use Rattle.player.specs.Scripts.{said_to, left_by, cells_after}
use Rattle.player.proofs.Books.{past-set}
use Rattle.player.proofs.Plays.{script_more, answers_more}
use Rattle.player.proofs.Scripts.{cells_stand}
use Rattle.player.proofs.Staying.{Stayed, stayed_more}
use Rattle.player.proofs.player.play.Goals as goal

pub loop-i-preserved : goal.loop-i-preserved
loop-i-preserved g c =
    let K = g.C.Charge.kind in
    let a = c.args in
    let i = c.loop-i.i in
    let r = g.R.Rule.meaning a.bench.parts.rule in
    let d = g.D.Density.weights K a.bench.parts.density in
    let first = meant K (all_strips a.cells.now a.spare.now a.opening.now a.crossed.now a.touched.now) in
    let inv = c.loop-i.invariant in
    let told = c.obey-next.ensures in
    let within : i < length a.script.now = omega arith in
    let more = script_more K r d first call_meant a.script.now i _ within in
    let call = call_meant (get_or a.script.now i _) in
    let answer = c.obey-next.result.1 in
    let now = c.loop-i in
    let new = c.obey-next.new in
    let said = told.obeys.said ∙ (λ j. said_to K (g.R.Rule.meaning (inv.0 j).parts.rule) (g.D.Density.weights K (inv.0 j).parts.density) (inv.1 j) call (inv.2 j)) in (
      told.bench ∙ inv.0,
      told.obeys.still_open
          ∙ (λ j. cells_after K (g.R.Rule.meaning (inv.0 j).parts.rule) (g.D.Density.weights K (inv.0 j).parts.density) (inv.1 j) call (inv.2 j))
          ∙ cells_stand K r d first (map call_meant (take i a.script.now)) call
          ∙ ap (λ p. length (standing p.log).cells) (sym more),
      told.obeys.left
          ∙ (λ j. left_by K (g.R.Rule.meaning (inv.0 j).parts.rule) (g.D.Density.weights K (inv.0 j).parts.density) (inv.1 j) call (inv.2 j))
          ∙ ap (λ p. p.strips) (sym more),
      answers_more (option_map (answer_meant K)) now.answers i answer _ _ (omega arith) inv.3 said
          ∙ ap (λ p. p.said) (sym more),
      past-set now.answers a.answers.now i answer inv.4,
      subst (λ p. Stayed K r d p (all_strips a.cells.now a.spare.now a.opening.now a.crossed.now a.touched.now) (all_strips new.cells new.spare new.opening new.crossed new.touched))
          (sym more)
          (stayed_more K r d first (map call_meant (take i a.script.now)) call answer (all_strips a.cells.now a.spare.now a.opening.now a.crossed.now a.touched.now)
          (all_strips now.cells now.spare now.opening now.crossed now.touched) (all_strips new.cells new.spare new.opening new.crossed new.touched)
          inv.5 said (subst (λ n. StaysPast (written_after answer call n) (all_strips now.cells now.spare now.opening now.crossed now.touched)
          (all_strips new.cells new.spare new.opening new.crossed new.touched)) inv.1 told.obeys.charges)),
    )
