use Rattle.std.proofs.Common.{length, None, Some, refl, sym, ap, ◌∙◌, subst}
use Rattle.criterion.specs.Search.{most_shown}
use Rattle.bench.specs.Answers.{break_of}
use Rattle.bench.specs.States.{draft_bench, judged_parts}
use Rattle.bench.specs.Verdicts.{judge_found}
use Rattle.bench.proofs.Searches.{sizes-pass}
use Rattle.capi.specs.Scripts.{script_asks, handed}
use Rattle.capi.specs.Playing.{Answered}
use Rattle.capi.proofs.Performed.{play-finds}
use Rattle.capi.proofs.play_charges.play_draft.Goals as goal

pub returns-in-Holds : goal.returns-in-Holds
returns-in-Holds g c =
    let K = g.C.Charge.kind in
    let S = g.C.Sent.sending in
    let a = c.args in
    let parts = a.draft.parts in
    let r = g.R.Rule.meaning parts.rule in
    let d = g.D.Density.weights K parts.density in
    let strips = handed K a.cells.now a.opening.now a.crossed.now a.touched.now in
    let told = c.in_ok-bench.ensures in
    let b = draft_bench a.draft in
    let new = c.play_script.new in
    play-finds K S r d strips (script_asks a.script) (g.R.Rule.lawful parts.rule) (g.D.Density.lawful K parts.density) (sizes-pass a.draft.sizes b a.draft.sized)
    (judge_found b (length a.crossings.now) most_shown) told.judged.right new.cells a.answers.now new.answers c.in_ok-bench.field-0 None told.judged.answer (sym (ap (λ v. break_of v) c.in-Holds.is))
    (subst (λ p. Answered K S (g.R.Rule.meaning p.rule) (g.D.Density.weights K p.density) strips (script_asks a.script) new.cells a.answers.now new.answers) (ap (λ v. judged_parts v) (sym c.in-Holds.is) ∙ told.handed) c.play_script.ensures)

pub returns-in-Breaks : goal.returns-in-Breaks
returns-in-Breaks g c =
    let K = g.C.Charge.kind in
    let S = g.C.Sent.sending in
    let a = c.args in
    let parts = a.draft.parts in
    let r = g.R.Rule.meaning parts.rule in
    let d = g.D.Density.weights K parts.density in
    let strips = handed K a.cells.now a.opening.now a.crossed.now a.touched.now in
    let told = c.in_ok-bench.ensures in
    let b = draft_bench a.draft in
    play-finds K S r d strips (script_asks a.script) (g.R.Rule.lawful parts.rule) (g.D.Density.lawful K parts.density) (sizes-pass a.draft.sizes b a.draft.sized)
    (judge_found b (length a.crossings.now) most_shown) told.judged.right a.cells.now a.answers.now a.answers.now c.in_ok-bench.field-0 (Some c.in-Breaks.found) told.judged.answer (sym (ap (λ v. break_of v) c.in-Breaks.is))
    (refl, refl)
