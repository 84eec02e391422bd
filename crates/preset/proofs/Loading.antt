-- What two strips hold once a preset was read into them. Assumes nothing.
use Rattle.std.proofs.Common.{◌≡◌, ℕ, ◌<◌, List, length, get_or, take, drop, Fits, w8, Ok, sym, ap, ◌∙◌, ap₂, subst, arith}
use Rattle.std.proofs.ByRecursion.{All-from_get_or}
use Rattle.std.proofs.lemmas.List.{take_at}
use Rattle.fault.specs.Answers.{and_then, at_front}
use Rattle.preset.specs.declared.entry.Entry.{Entry}
use Rattle.preset.specs.declared.preset_strips.PresetStrips.{PresetStrips}
use Rattle.preset.specs.Laws.{Bytes}
use Rattle.preset.specs.Presets.{PresetHead, Preset, whole_preset}
use Rattle.preset.specs.Sound.{Sound}
use Rattle.preset.specs.PresetStrips.{ReadInto}
use Rattle.preset.specs.Writes.{header_fronts}
use Rattle.preset.proofs.Outcomes.{ok-is, and_ok}
use Rattle.preset.proofs.PresetLaws.{whole-sound}

front-taken : {X : Type 0} (xs strip after : List X) (n : ℕ) → length xs ≡ n → after ≡ at_front xs strip → take n after ≡ xs
front-taken xs strip after n count e = ap (take n) e ∙ take_at xs (drop (length xs) strip) n count

-- the fronts of the strips are the preset
pub record Front (bs : List ℕ) (head : PresetHead) (strips : PresetStrips) : Type 0 where
  pub is : whole_preset bs ≡ Ok (header_fronts head strips.letters strips.entries)
  pub sound : Sound (header_fronts head strips.letters strips.entries)

pub front-read : (bs : List ℕ) (head : PresetHead) (was now : PresetStrips) → ((i : ℕ) → Fits w8 (get_or bs i 0)) → Ok head ≡ and_then (whole_preset bs) (λ p. Ok p.head) → ReadInto was (whole_preset bs) now → Front bs head now
front-read bs head was now fits h into =
    let u : Bytes bs = All-from_get_or (λ b. b < 256) bs 0 (λ i h. let t = fits i in omega arith) in
    let a = and_ok (whole_preset bs) (λ p. Ok p.head) head (sym h) in
    let p = a.0 in
    let s = whole-sound bs p u a.1 in
    let into' = rw a.1 at into in
    let named : p.head ≡ head = ok-is a.2 in
    let ls = front-taken p.letters was.letters now.letters _ s.letter_count into'.letters in
    let es = front-taken p.entries was.entries now.entries _ s.entry_count into'.entries in
    let same : p ≡ header_fronts p.head now.letters now.entries = ap₂ (λ (xs : List ℕ) (ys : List Entry). record { head = p.head; letters = xs; entries = ys }) (sym ls) (sym es) in
    let all : p ≡ header_fronts head now.letters now.entries = same ∙ ap (λ (x : PresetHead). header_fronts x now.letters now.entries) named in
    record { is = a.1 ∙ ap (λ (x : Preset). Ok x) all; sound = subst Sound all s }
