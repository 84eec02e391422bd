-- What a scan says of the preset that it found. Assumes nothing.
use Rattle.std.proofs.Common.{◌≡◌, ℕ, ◌-◌, ◌<◌, ◌≤◌, List, [], ◌∷◌, length, Ok, Err, Result, refl, ap, ◌∙◌, arith, le-leb}
use Rattle.fault.specs.declared.Stop.TheVariants.{SurplusBytes}
use Rattle.fault.specs.Limits.{most_words}
use Rattle.fault.specs.Refusals.{Refusal, refused_at}
use Rattle.fault.specs.Answers.{and_then, strip_after}
use Rattle.preset.specs.declared.entry.Entry.{Entry}
use Rattle.preset.specs.declared.reader.Scan.{Scan}
use Rattle.preset.specs.Answers.{Parse, skipped}
use Rattle.preset.specs.Heads.{head_of}
use Rattle.preset.specs.Presets.{PresetHead, Preset, preset, head_read, letters_read, entries_read, nothing_after, whole_preset, with_strip_room, whole_reading}
use Rattle.preset.specs.Scans.{Scanned}
use Rattle.preset.proofs.Outcomes.{pair_1}

-- what was passed over
skipped-ok : {X : Type 0} (a : Parse X) (rest : List ℕ) → skipped a ≡ Ok (tt, rest) → (x : X) × (a ≡ Ok (x, rest))
skipped-ok (Ok p) rest e = let r : p.1 ≡ rest = pair_1 e in (p.0, ap (λ (bs : List ℕ). Ok (p.0, bs)) r)
skipped-ok (Err f) rest e = let z : ◌≡◌ {A = ℕ} 0 1 = cc in absurd (omega arith)

ended_some : (whole : ℕ) (p : Preset) (rest : List ℕ) → 0 < length rest → nothing_after whole (p, rest) ≡ Err (refused_at SurplusBytes (whole - length rest))
ended_some whole p [] h = absurd (omega arith)
ended_some whole p (b ∷ bs) h = refl

ended_none : (whole : ℕ) (p : Preset) (rest : List ℕ) → length rest ≡ 0 → nothing_after whole (p, rest) ≡ Ok p
ended_none whole p [] h = refl
ended_none whole p (b ∷ bs) h = absurd (omega arith)

-- a preset by its three parts
pub preset-is : (bs after-head after_letters rest : List ℕ) (h : PresetHead) (ls : List ℕ) (es : List Entry)
    → head_read (length bs) bs ≡ Ok (h, after-head) → letters_read (length bs) h after-head ≡ Ok (ls, after_letters) → entries_read (length bs) h after_letters ≡ Ok (es, rest)
    → preset bs ≡ Ok (record { head = h; letters = ls; entries = es }, rest)
preset-is bs after-head after_letters rest h ls es e₁ e₂ e₃ = rw (e₁, e₂, e₃)

module _ (bs : List ℕ) (s : Scan) (is : Scanned bs s) where
  -- the preset that was found
  found : (p : Preset) × (preset bs ≡ Ok (p, s.rest.bytes.now)) × (p.head ≡ head_of s.head)
  found =
      let h = head_of s.head in
      let ls = skipped-ok (letters_read (length bs) h s.letters.bytes.now) s.entries.bytes.now is.letters in
      let es = skipped-ok (entries_read (length bs) h s.entries.bytes.now) s.rest.bytes.now is.entries in
      (record { head = h; letters = ls.0; entries = es.0 }, preset-is bs s.letters.bytes.now s.entries.bytes.now s.rest.bytes.now h ls.0 es.0 is.head ls.1 es.1, refl)

  module _ (letters : List ℕ) (entries : List Entry) (lroom : most_words ≤ length letters) (eroom : most_words ≤ length entries) where
    roomy : {X : Type 0} (r : Result X Refusal) → with_strip_room (length letters) (length entries) r ≡ r
    roomy r = rw (le-leb most_words (length letters) lroom, le-leb most_words (length entries) eroom)

    pub whole_surplus : 0 < length s.rest.bytes.now → whole_reading letters entries bs ≡ Err (refused_at SurplusBytes (length bs - length s.rest.bytes.now))
    whole_surplus h = let f = found in roomy (whole_preset bs) ∙ rw f.1 (ended_some (length bs) f.0 s.rest.bytes.now h)

    whole-found : length s.rest.bytes.now ≡ 0 → whole_reading letters entries bs ≡ Ok found.0
    whole-found h = let f = found in roomy (whole_preset bs) ∙ rw f.1 (ended_none (length bs) f.0 s.rest.bytes.now h)

    pub whole-done : length s.rest.bytes.now ≡ 0
        → (and_then (whole_reading letters entries bs) (λ p. Ok p.head) ≡ Ok (head_of s.head))
        × (strip_after (λ p. p.letters) letters (whole_reading letters entries bs) ≡ strip_after (λ p. p.0.letters) letters (preset bs))
        × (strip_after (λ p. p.entries) entries (whole_reading letters entries bs) ≡ strip_after (λ p. p.0.entries) entries (preset bs))
    whole-done h = let w = whole-found h in let e = found.1 in (rw w (ap (λ (h : PresetHead). Ok h) found.2), rw (w, e), rw (w, e))
