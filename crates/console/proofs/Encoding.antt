-- What a page is encoded to. Assumes nothing.
use Rattle.std.proofs.Common.{◌≡◌, ℕ, ◌^◌, List, length, OnSome, Some, None, Ok, Err, Option, Result, refl, ap, ap₂}
use Rattle.fault.specs.Answers.{and_then}
use Rattle.fault.specs.Limits.{most_window, most_width}
use Rattle.fault.specs.Refusals.{Refusal}
use Rattle.preset.specs.declared.entry.Entry.{Entry}
use Rattle.preset.specs.declared.header.Header.{Header}
use Rattle.preset.specs.Presets.{PresetHead, Preset, item_count}
use Rattle.preset.specs.Sizes.{Sized}
use Rattle.preset.specs.Writes.{head_checked, preset_to_write, preset_bytes, with_byte_room, writing}
use Rattle.preset.proofs.Heads.{letters_few, entries_few}
use Rattle.preset.proofs.PresetLaws.{head_from, counted-some}
use Rattle.console.specs.Encodes.{from_writer, miscounted, bytes_of, most_preset}
use Rattle.console.specs.Grammar.{Content}

-- a header that may be written counts letters and entries
module _ (h : Header) (s : Sized h) where
  letters-counted : item_count most_window h.q h.n ≡ Some (h.q ^ h.n)
  letters-counted = counted-some most_window h.q h.n (h.q ^ h.n) s.letters_some s.letters_most s.window_some s.window (letters_few h s) refl

  entries-counted : item_count most_width h.q h.k ≡ Some (h.q ^ h.k)
  entries-counted = counted-some most_width h.q h.k (h.q ^ h.k) s.letters_some s.letters_most s.width_some s.width (entries_few h s) refl

-- a list that is the items where the header counts some, as many as there are, and else any list
abbrev pub Serves : {X : Type 0} → Option ℕ → List X → List X → Type 0
Serves count items xs = (miscounted count (length items) ≡ None) × OnSome count (xs ≡ items)

-- the writer answers the same of such lists
module _ (d : Content) (ls : List ℕ) (es : List Entry) (letters : Serves (item_count most_window d.header.q d.header.n) d.letters ls) (entries : Serves (item_count most_width d.header.q d.header.k) d.entries es) where
  same_checked : preset_to_write d.header ls es ≡ preset_to_write d.header d.letters d.entries
  same_checked = go (head_checked d.header) refl
    where
      go : (r : Result PresetHead Refusal) → head_checked d.header ≡ r → preset_to_write d.header ls es ≡ preset_to_write d.header d.letters d.entries
      go (Err f) e = rw e
      go (Ok head) e =
          let s = (head_from d.header head e).2 in
          ap₂ (preset_to_write d.header) (rw (letters-counted d.header s) at letters.1) (rw (entries-counted d.header s) at entries.1)

  pub bytes_are : (out : List ℕ) → length out ≡ most_preset → from_writer d.lines (writing d.header ls es out) ≡ bytes_of d
  bytes_are out room =
      let same = ap₂ (λ (r : Result Preset Refusal) (n : ℕ). and_then r (λ p. with_byte_room n (preset_bytes p))) same_checked room in
      rw (letters.0, entries.0) (ap (from_writer d.lines) same)
