use Rattle.std.proofs.Common.{map, length, refl, ap, ◌∙◌}
use Rattle.std.proofs.lemmas.Result.{IfOk-weaker}
use Rattle.charge.specs.declared.kind.ChargeKind.{ChargeKind}
use Rattle.report.specs.declared.report_line.Question.TheVariants.{Compare}
use Rattle.preset.specs.Loads.{preset_of}
use Rattle.report.specs.Texts.{notation_of}
use Rattle.report.specs.Reports.{compare_notation}
use Rattle.report.proofs.Lined.{compare-line}
use Rattle.report.proofs.Verdicts.{finds_fit, told}
use Rattle.report.proofs.comparing.compare_charges.Goals as goal

pub line-requires : goal.line-requires
line-requires g c = finds_fit g.C.Charge.kind g.C.Sent.sending _ _ _ _ _ _ _ _ _ _ c.compare_tables-found.ensures c.sent_found.result c.sent_found.ensures

pub returns : goal.returns
returns g c =
    let K = g.C.Charge.kind in
    let S = g.C.Sent.sending in
    let p = c.args.first in
    let q = c.args.second in
    let sent = ap (map S.entry) c.deref.ensures.value ∙ c.in_ok-charges.ensures in
    let others_sent = ap (map S.entry) c.deref-2.ensures.value ∙ c.in_ok-others.ensures in
    let room = c.deref_mut.ensures.len ∙ c.in_ok-crossings.ensures.len in
    let same = c.compare_notation.ensures ∙ ap (λ (k : ChargeKind). compare_notation k p.header q.header) c.requires.first in
    IfOk-weaker c.line.result _ _ (λ l is.
    compare-line K S c.args.subject.now (preset_of p) (preset_of q) c.deref.result.now c.deref-2.result.now (length c.deref_mut.result.now) _ room refl sent others_sent l
    (told K S _ _ _ _ _ _ _ _ _ _ c.compare_tables-found.ensures c.sent_found.result c.sent_found.ensures Compare c.args.subject.now (notation_of c.compare_notation.result) (compare_notation S.named p.header q.header) same l is)) c.line.ensures
