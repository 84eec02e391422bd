-- What is told of a preset by its kind, where the kind is known. Assumes nothing.
use Rattle.std.proofs.Common.{◌≡◌, ℕ, Bool, true, List, Result, sym, subst}
use Rattle.fault.specs.declared.Fault.{Fault}
use Rattle.charge.specs.declared.kind.ChargeKind.{ChargeKind}
use Rattle.preset.specs.Presets.{Preset}
use Rattle.report.specs.declared.report_line.ReportLine.{ReportLine}
use Rattle.report.specs.Reports.{JudgedAs, ComparedAs, CrossedAs}

pub judged_as : {k kind : ChargeKind} {name : List ℕ} {p : Preset} {l : ReportLine} → k ≡ kind → JudgedAs kind name p l → JudgedAs k name p l
judged_as {name = name} {p = p} {l = l} is = subst (λ k. JudgedAs k name p l) (sym is)

pub compared_as : {k kind : ChargeKind} {subject : List ℕ} {p p' : Preset} {l : ReportLine} → k ≡ kind → ComparedAs true kind subject p p' l → ComparedAs true k subject p p' l
compared_as {subject = subject} {p = p} {p' = p'} {l = l} is = subst (λ k. ComparedAs true k subject p p' l) (sym is)

pub crossed_as : {k kind : ChargeKind} {p : Preset} {r : Result ReportLine Fault} → k ≡ kind → CrossedAs kind p r → CrossedAs k p r
crossed_as {p = p} {r = r} is = subst (λ k. CrossedAs k p r) (sym is)

-- two presets whose kinds are the same
pub compared_so : (b : Bool) (k : ChargeKind) (subject : List ℕ) (p p' : Preset) (l : ReportLine) → b ≡ true → ComparedAs true k subject p p' l → ComparedAs b k subject p p' l
compared_so b k subject p p' l is = subst (λ b. ComparedAs b k subject p p' l) (sym is)
