use Rattle.std.proofs.Common.{map, length, refl, ap, ◌∙◌}
use Rattle.std.proofs.lemmas.Result.{IfOk-weaker}
use Rattle.charge.specs.declared.kind.ChargeKind.{ChargeKind}
use Rattle.report.specs.declared.report_line.Question.TheVariants.{Judge}
use Rattle.preset.specs.Loads.{preset_of}
use Rattle.report.specs.Texts.{notation_of}
use Rattle.report.specs.Reports.{judge_notation}
use Rattle.report.proofs.Lined.{judge-line}
use Rattle.report.proofs.Verdicts.{told}
use Rattle.report.proofs.verdict.judge_charges.Goals as goal

pub returns : goal.returns
returns g c =
    let K = g.C.Charge.kind in
    let S = g.C.Sent.sending in
    let p = c.args.preset in
    let sent = ap (map S.entry) c.deref.ensures.value ∙ c.in_ok-charges.ensures in
    let room = c.deref_mut.ensures.len ∙ c.in_ok-crossings.ensures.len in
    let same = c.judge_notation.ensures ∙ ap (λ (k : ChargeKind). judge_notation k p.header) c.requires in
    IfOk-weaker c.line.result _ _ (λ l is.
    judge-line K S c.args.name.now (preset_of p) c.deref.result.now (length c.deref_mut.result.now) _ room refl sent l
    (told K S _ _ _ _ _ _ _ _ _ _ c.judge-found.ensures c.sent_found.result c.sent_found.ensures Judge c.args.name.now (notation_of c.judge_notation.result) (judge_notation S.named p.header) same l is)) c.line.ensures
