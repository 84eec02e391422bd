use Rattle.std.proofs.Common.{◌^◌, ◌≤◌, map, length, refl, sym, ap, ◌∙◌, subst, arith}
use Rattle.fault.specs.Limits.{most_words}
use Rattle.charge.specs.declared.kind.ChargeKind.{ChargeKind}
use Rattle.preset.specs.Loads.{preset_of}
use Rattle.report.specs.Texts.{Notation, notation_of}
use Rattle.report.specs.Reports.{crossing_notation}
use Rattle.report.proofs.Lined.{crossings-page}
use Rattle.preset_bench.proofs.Counts.{crossings_few}
use Rattle.report.proofs.Crossed.{page-told, refusal-told, refused_is}
use Rattle.report.proofs.crossing.cross_charges.Goals as goal

pub returns-in_err-found : goal.returns-in_err-found
returns-in_err-found g c =
    let K = g.C.Charge.kind in
    let S = g.C.Sent.sending in
    let p = c.args.preset in
    let sent = ap (map S.entry) c.deref.ensures.value ∙ c.in_ok-charges.ensures in
    let room = c.as_mut_slice-crossings.ensures.len ∙ c.in_ok-strip.ensures.len in
    refused_is _ c.from_residual-in_err-found.result c.in_err-found.field-0.0 c.from_residual-in_err-found.ensures.1
    (crossings-page K S (preset_of p) c.deref.result.now (length c.as_mut_slice-crossings.result.now) _ room refl sent _
    (refusal-told K S _ _ p.header p.letters.now c.deref.result.now _ c.judge.new.crossings _ _ c.in_err-found.field-0.0 c.in_err-found.ensures))

pub page_line-requires : goal.page_line-requires
page_line-requires g c =
    let p = c.args.preset in
    let notation = c.crossing_notation.ensures in
    let z = p.sound.sized in
    let m = ap (λ (s : Notation). s.m) notation in
    let few : c.crossing_notation.result.q ^ c.crossing_notation.result.m ≤ most_words = subst (λ (s : Notation). s.q ^ s.m ≤ most_words) (sym notation) (crossings_few p.header z) in
    (omega (arith, m, z.window, z.width), few, omega (arith, few, c.as_mut_slice-crossings.ensures.len, c.judge.auto.crossings, c.in_ok-strip.ensures.len))

pub returns : goal.returns
returns g c =
    let K = g.C.Charge.kind in
    let S = g.C.Sent.sending in
    let p = c.args.preset in
    let sent = ap (map S.entry) c.deref.ensures.value ∙ c.in_ok-charges.ensures in
    let room = c.as_mut_slice-crossings.ensures.len ∙ c.in_ok-strip.ensures.len in
    let same = c.crossing_notation.ensures ∙ ap (λ (k : ChargeKind). crossing_notation k p.header) c.requires in
    crossings-page K S (preset_of p) c.deref.result.now (length c.as_mut_slice-crossings.result.now) _ room refl sent _
    (page-told K S _ _ p.header p.letters.now c.deref.result.now _ c.judge.new.crossings _ _ c.in_ok-found.found c.in_ok-found.ensures (notation_of c.crossing_notation.result) same c.in_ok-page_line.field-0 c.in_ok-page_line.ensures)
