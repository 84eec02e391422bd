-- What is promised of a preset by its kind, where the kind is known. Assumes nothing.
use Rattle.std.proofs.Common.{◌≡◌, ℕ, List, sym, subst}
use Rattle.charge.specs.declared.kind.ChargeKind.{ChargeKind}
use Rattle.preset.specs.Presets.{Preset}
use Rattle.preset.specs.declared.entry.Entry.{Entry}
use Rattle.capi.specs.declared.answers.JudgeAnswer.{JudgeAnswer}
use Rattle.capi.specs.declared.answers.ScriptAnswer.{ScriptAnswer}
use Rattle.capi.specs.Judging.{JudgedAs}
use Rattle.capi.specs.Playing.{PlayedAs}
use Rattle.capi.specs.Scripts.{Asking}

pub judged_as : {k kind : ChargeKind} {p : Preset} {old new : List Entry} {strip ring : List ℕ} {a : JudgeAnswer} → k ≡ kind → JudgedAs kind p old new strip ring a → JudgedAs k p old new strip ring a
judged_as {p = p} {old = old} {new = new} {strip = strip} {ring = ring} {a = a} is = subst (λ k. JudgedAs k p old new strip ring a) (sym is)

pub played_as : (k kind : ChargeKind) (p : Preset) (script : List Asking) (cells left : List ℕ) (old new : List ScriptAnswer) (a : JudgeAnswer) → k ≡ kind → PlayedAs kind p script cells left old new a → PlayedAs k p script cells left old new a
played_as k kind p script cells left old new a is = subst (λ k. PlayedAs k p script cells left old new a) (sym is)
