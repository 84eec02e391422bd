use Rattle.std.proofs.Common.{ap, ◌∙◌, arith}
use Rattle.std.proofs.lemmas.Bool.Decides.{nat_tests}
use Rattle.fault.specs.Answers.{plainly, and_then}
use Rattle.player.proofs.Passed.{touch-letters, plainly-and}
use Rattle.player.proofs.playing.Playing.check_touch.Goals as goal

pub returns : goal.returns
returns g c =
    let K = g.C.Charge.kind in
    let a = c.args in
    let cells = c.check_letters.result in
    ap plainly c.and.ensures
    ∙ plainly-and cells c.check_letter.result
    ∙ ap (λ x. and_then (plainly cells) (λ _. x)) c.check_letter.ensures
    ∙ touch-letters K (g.R.Rule.meaning a.self.now.bench.parts.rule).q a.self.now.len a.site a.letter a.cells.now a.touched.now (grind (arith, nat_tests)) (grind (arith, nat_tests)) (plainly cells) c.check_letters.ensures
