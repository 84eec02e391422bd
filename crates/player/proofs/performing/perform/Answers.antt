use Rattle.std.proofs.Common.{length, map}
use Rattle.bench.specs.States.{draft_bench}
use Rattle.bench.proofs.Searches.{sizes-pass}
use Rattle.player.specs.Answers.{call_meant}
use Rattle.player.specs.Promises.{all_strips, meant}
use Rattle.player.proofs.Logs.{logs_true}
use Rattle.player.proofs.Refusals.{refusals_fit}
use Rattle.player.proofs.Steps.{steps_on}
use Rattle.player.proofs.Whole.{verdict_told, crossings_told, log_told}
use Rattle.player.proofs.performing.perform.Goals as goal

pub returns-clause-verdict : goal.returns-clause-verdict
returns-clause-verdict g c =
    let a = c.args in
    verdict_told (length a.script.now) (length a.answers.now) (draft_bench a.draft) (g.R.Rule.lawful a.draft.parts.rule) _ _ _ c.perform_on.ensures.judged

pub returns-clause-crossings : goal.returns-clause-crossings
returns-clause-crossings g c =
    let a = c.args in
    crossings_told (length a.script.now) (length a.answers.now) (draft_bench a.draft) (g.R.Rule.lawful a.draft.parts.rule) _ _ _ c.perform_on.ensures.judged

pub returns-clause-logs : goal.returns-clause-logs
returns-clause-logs g c = logs_true g.C.Charge.kind

pub returns-clause-log : goal.returns-clause-log
returns-clause-log g c =
    let K = g.C.Charge.kind in
    let a = c.args in
    let b = draft_bench a.draft in
    log_told (length a.script.now) (length a.answers.now) b (g.R.Rule.lawful a.draft.parts.rule) _ _ _ c.perform_on.ensures.judged
    (g.D.Density.lawful K a.draft.parts.density) (sizes-pass a.draft.sizes b a.draft.sized) (map call_meant a.script.now)
    (meant K (all_strips a.cells.now a.spare.now a.opening.now a.crossed.now a.touched.now))

pub returns-clause-laws : goal.returns-clause-laws
returns-clause-laws g c = (refusals_fit g.C.Charge.kind, steps_on g.C.Charge.kind)
