-- What is shown of a preset is encoded as its bytes again. Assumes nothing.
use Rattle.std.proofs.Common.{◌≡◌, ℕ, ◌^◌, ◌<◌, ◌≤◌, true, false, ltb, List, [], ◌∷◌, length, ℤ, pos, negsuc, nat_abs, Ok, sym, refl, ap, ◌∙◌, arith, ltb-true, eq-eqb, eqb-true, le-leb}
use Rattle.std.proofs.lemmas.Bool.{and_parts}
use Rattle.std.specs.List.{AllByRecursion}
use Rattle.charge.specs.Ranges.{voices_range}
use Rattle.charge.specs.declared.kind.ChargeKind.{ChargeKind}
use Rattle.charge.specs.declared.kind.ChargeKind.TheVariants.{Voices, Pitch, Channels, Both, Cents}
use Rattle.preset.specs.declared.entry.Entry.{Entry}
use Rattle.preset.specs.Entries.{fits, signed_fits}
use Rattle.preset.specs.Laws.{Bytes}
use Rattle.preset.specs.Presets.{Preset, whole_preset}
use Rattle.preset.specs.Writes.{preset_bytes}
use Rattle.preset.proofs.Outcomes.{ok-is, and_ok}
use Rattle.preset.proofs.PresetLaws.{whole-sound, whole-so, preset_sizes}
use Rattle.console.specs.Encodes.{encoded, bytes_of, counts_tested, most_preset, ShownEncodesBack}
use Rattle.console.specs.Grammar.{Content, parsed}
use Rattle.console.specs.Numbers.{number_end}
use Rattle.console.specs.ReadBack.{OfKind, Holdable, page_lines}
use Rattle.console.specs.Shows.{page_of}
use Rattle.console.proofs.ReadBack.{page_returns}

-- the parts of an entry are numbers of a page
signed_small : (z : ℤ) → voices_range z ≡ true → nat_abs z < number_end
signed_small (pos n) e = let h = ltb-true n (2 ^ 31) e in omega arith
signed_small (negsuc n) e = let h = ltb-true n (2 ^ 31) e in omega arith

signed-zero : (z : ℤ) → signed_fits false z ≡ true → z ≡ pos 0
signed-zero (pos n) e = ap pos (eqb-true n 0 e)
signed-zero (negsuc n) e = let z : false ≡ true = e in absurd (grind arith)

of-kind : (kind : ChargeKind) (e : Entry) → fits kind e ≡ true → OfKind kind e
of-kind Voices e f = let b = and_parts _ _ f in (signed_small e.signed b.0, eqb-true e.plain 0 b.1)
of-kind Pitch e f = let b = and_parts _ _ f in let h = ltb-true e.plain 12 b.1 in (signed-zero e.signed b.0, omega arith)
of-kind Channels e f = let b = and_parts _ _ f in let h = ltb-true e.plain (2 ^ 16) b.1 in (signed-zero e.signed b.0, omega arith)
of-kind Both e f = let b = and_parts _ _ f in let h = ltb-true e.plain 12 b.1 in (signed_small e.signed b.0, omega arith)
of-kind Cents e f = let b = and_parts _ _ f in let h = ltb-true e.plain 1200 b.1 in (signed-zero e.signed b.0, omega arith)

entries_of-kind : (kind : ChargeKind) (es : List Entry) → AllByRecursion (λ e. fits kind e ≡ true) es → AllByRecursion (OfKind kind) es
entries_of-kind kind [] u = tt
entries_of-kind kind (e ∷ es) u = (of-kind kind e u.0, entries_of-kind kind es u.1)

letters_small : (q : ℕ) → q < 9 → (xs : List ℕ) → AllByRecursion (λ x. ltb x q ≡ true) xs → AllByRecursion (λ x. x < 256) xs
letters_small q h [] u = tt
letters_small q h (x ∷ xs) u = let k = ltb-true x q u.0 in (omega arith, letters_small q h xs u.1)

module _ (bs : List ℕ) (p : Preset) (u : Bytes bs) (small : length bs ≤ most_preset) (whole : whole_preset bs ≡ Ok p) where
  holdable : Holdable p.head.kind p.head.header p.letters p.entries (length bs)
  holdable =
      let g = whole-sound bs p u whole in
      let s = g.sized in
      record {
        same_kind = sym g.named;
        q = omega (arith, s.letters_most);
        n = omega (arith, s.window);
        l = omega (arith, s.reach, s.window);
        k = omega (arith, s.width);
        letter = letters_small p.head.header.q (omega (arith, s.letters_most)) p.letters g.letters_fit;
        entry = entries_of-kind p.head.kind p.entries g.entries_fit;
        count = omega arith;
      }

  -- what the page of the preset holds
  abbrev held : Content
  held = record { kind = p.head.kind; header = p.head.header; letters = p.letters; entries = p.entries; lines = page_lines }

  read : parsed (page_of (length bs) p) ≡ Ok held
  read = page_returns p.head.kind p.head.header p.letters p.entries (length bs) holdable

  counts : counts_tested held ≡ Ok tt
  counts =
      let z = preset_sizes bs p u whole in
      rw (z.1, z.2, eq-eqb (length p.letters) (length p.letters) refl, eq-eqb (length p.entries) (length p.entries) refl)

  written : bytes_of held ≡ Ok (preset_bytes p)
  written =
      let s = whole-so bs p u whole in
      let room = le-leb (length (preset_bytes p)) most_preset (omega (arith, ap length s.1)) in
      rw (counts, s.0, room)

  back : encoded (page_of (length bs) p) ≡ Ok bs
  back = rw read (written ∙ ap (λ (xs : List ℕ). Ok xs) (sym (whole-so bs p u whole).1))

pub shown_encodes_back : ShownEncodesBack
shown_encodes_back bs page u small e =
    let a = and_ok (whole_preset bs) (λ p. Ok (page_of (length bs) p)) page e in
    ap encoded (sym (ok-is a.2)) ∙ back bs a.0 u small a.1
