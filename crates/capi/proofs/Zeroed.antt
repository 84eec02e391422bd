-- Strips of zeros mean zeros. Assumes nothing.
use Rattle.std.proofs.Common.{◌≡◌, ℕ, zero, suc, List, map, replicate, refl, ap, subst, ◌∷◌, ◌∙◌}
use Rattle.fault.specs.Limits.{most_cells}
use Rattle.charge.specs.Groups.{Kind}
use Rattle.charge.specs.declared.kind.ChargeKind.{ChargeKind}
use Rattle.preset.specs.Presets.{Preset}
use Rattle.preset.specs.Sending.{delivered}
use Rattle.capi.specs.declared.answers.JudgeAnswer.{JudgeAnswer}
use Rattle.capi.specs.declared.answers.ScriptAnswer.{ScriptAnswer}
use Rattle.capi.specs.Playing.{PlayedOn, PlayedAs}
use Rattle.capi.specs.Scripts.{Asking, handed, zeroed}

all-mean : {X Y : Type 0} (f : X → Y) (x : X) (n : ℕ) → map f (replicate n x) ≡ replicate n (f x)
all-mean f x zero = refl
all-mean f x (suc n) = ap (λ xs. f x ∷ xs) (all-mean f x n)

all-zero : {C : Type 0} (K : Kind C) (cells : List ℕ) (none : C) → K.means none ≡ K.group.zero
    → let clear = replicate most_cells none in handed K cells clear clear clear ≡ zeroed K cells
all-zero K cells none is =
    let e : map K.means (replicate most_cells none) ≡ replicate most_cells K.group.zero = all-mean K.means none most_cells ∙ ap (replicate most_cells) is in
    λ j. record { cells = cells; spare = replicate most_cells 0; opening = e j; crossed = e j; touched = e j }

-- what is played on strips of a charge that means zero
pub played-zeroed : (kind : ChargeKind) (p : Preset) (script : List Asking) (cells left : List ℕ) (old new : List ScriptAnswer) (a : JudgeAnswer) (none : (delivered kind).Charges) →
    (delivered kind).meaning.means none ≡ (delivered kind).meaning.group.zero →
    let clear = replicate most_cells none in
    PlayedOn (delivered kind).meaning (delivered kind).sending p script (handed (delivered kind).meaning cells clear clear clear) left old new a → PlayedAs kind p script cells left old new a
played-zeroed kind p script cells left old new a none clear =
    let d = delivered kind in
    subst (λ s. PlayedOn d.meaning d.sending p script s left old new a) (all-zero d.meaning cells none clear)
