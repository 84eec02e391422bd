-- What is shown of a preset's bytes. Assumes nothing.
use Rattle.std.specs.Prelude.{ℕ, List, length, Some, None, Ok, Err, Option, Result}
use Rattle.fault.specs.declared.Fault.{Fault}
use Rattle.fault.specs.Refusals.{Refusal, refusal}
use Rattle.fault.specs.Answers.{and_then}
use Rattle.preset.specs.Presets.{Preset, whole_preset}
use Rattle.console.specs.Pages.{page_text}
use Rattle.console.specs.declared.failure.ShowError.{ShowError}
use Rattle.console.specs.declared.failure.ShowError.TheVariants.{Memory, Refused}

-- the page of a preset that was read from some bytes
abbrev pub page_of : ℕ → Preset → List ℕ
page_of bytes p = page_text p.head.kind p.head.header p.letters p.entries bytes

-- the page of the preset that the bytes are, or its refusal
abbrev pub page_shown : List ℕ → Result (List ℕ) Refusal
page_shown bs = and_then (whole_preset bs) (λ p. Ok (page_of (length bs) p))

-- an answer, unless there was no memory for it
abbrev pub unless_memory : {X : Type 0} → Result X ShowError → Option (Result X Fault)
unless_memory (Ok x) = Some (Ok x)
unless_memory (Err (Refused f)) = Some (Err f)
unless_memory (Err Memory) = None

-- the numbers of the refusal that is told, if one is
abbrev pub refusal_told : {X : Type 0} → Result X ShowError → Option Refusal
refusal_told (Ok x) = None
refusal_told (Err (Refused f)) = Some (refusal f)
refusal_told (Err Memory) = None
