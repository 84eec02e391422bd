-- What two strips hold once a preset was read into them. Assumes nothing.
use Rattle.std.specs.Prelude.{◌≡◌, ℕ, List, Result, ⊤}
use Rattle.std.specs.Borrow.{MutBor, Fml, follows_so}
use mathlib.Core.Option.{none}
use Rattle.fault.specs.Answers.{strip_after}
use Rattle.fault.specs.Refusals.{Refusal}
use Rattle.preset.specs.declared.entry.Entry.{Entry}
use Rattle.preset.specs.declared.preset_strips.PresetStrips.{PresetStrips}
use Rattle.preset.specs.contracts.preset_strips.PresetStrips.{the_row}
use Rattle.preset.specs.Presets.{Preset}

-- the letters and the entries that two strips hold
abbrev pub letters_of : PresetStrips → List ℕ
letters_of s = s.letters

abbrev pub entries_of : PresetStrips → List Entry
entries_of s = s.entries

-- what was read stands at the front of each strip; after a refusal they are as they were
pub record ReadInto (was : PresetStrips) (answer : Result Preset Refusal) (now : PresetStrips) : Type 0 where
  pub letters : letters_of now ≡ strip_after (λ p. p.letters) (letters_of was) answer
  pub entries : entries_of now ≡ strip_after (λ p. p.entries) (entries_of was) answer

-- what is true of lent strips once the loan ends
abbrev pub EndsAs : MutBor PresetStrips → (PresetStrips → Type 0) → Fml
EndsAs s P = follows_so the_row the_row s.ghost_name none (λ _ _. ⊤) P
