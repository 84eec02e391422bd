-- Reading and sending letters and entries undo one another. Assumes nothing.
use Rattle.std.proofs.Common.{◌≡◌, ℕ, zero, suc, ◌+◌, ◌-◌, ◌*◌, ◌/◌, ◌%◌, ◌^◌, ◌<◌, ◌≤◌, Bool, true, false, ◌&&◌, eqb, ltb, leb, List, [], ◌∷◌, ◌++◌, length, drop, ℤ, pos, negsuc, Some, None, Ok, Option, sym, refl, ap, ◌∙◌, inl, inr, append_assoc, arith, lit≤, ltb-true, lt-ltb, eqb-true, le-leb, leb-true}
use borrow.Author.Tests.{eqb-false}
use Rattle.std.proofs.ByRecursion.{All-drop}
use Rattle.std.proofs.lemmas.List.{drop_at}
use Rattle.std.proofs.lemmas.Bool.{and_parts, and_from, cases_Bool}
use Rattle.std.specs.List.{AllByRecursion}
use Rattle.fault.specs.declared.Stop.{Stop}
use Rattle.fault.specs.declared.Stop.TheVariants.{BadEntry}
use Rattle.charge.specs.declared.kind.ChargeKind.{ChargeKind}
use Rattle.charge.specs.declared.kind.ChargeKind.TheVariants.{Voices, Pitch, Channels, Both, Cents}
use Rattle.charge.specs.Ranges.{voices_range}
use Rattle.fault.specs.Answers.{and_then}
use Rattle.preset.specs.declared.entry.Entry.{Entry}
use Rattle.preset.specs.Answers.{Parse, many}
use Rattle.preset.specs.Entries.{zig, zag, signed_part, plain_end, signed_fits, plain_fits, fits, signed_read, plain_read, entry, signed_number, plain_number, part_bytes, entry_bytes}
use Rattle.preset.specs.Fields.{field}
use Rattle.preset.specs.Items.{sent}
use Rattle.preset.specs.Laws.{Bytes}
use Rattle.preset.specs.Numbers.{number_read, number_limit, spell}
use Rattle.preset.proofs.NumberLaws.{number_reads_back, number_spells_back}
use Rattle.preset.proofs.Outcomes.{and_ok, cond_ok, pair_0, pair_1}

-- the bytes after a front are bytes
pub bytes_after : (bs xs rest : List ℕ) → Bytes bs → bs ≡ xs ++ rest → Bytes rest
bytes_after bs xs rest u e =
    let d : drop (length xs) bs ≡ rest = ap (drop (length xs)) e ∙ drop_at xs rest (length xs) refl in
    rw d at (All-drop (λ b. b < 256) (length xs) bs u)

-- What was sent is read, and what is read was sent so, for one item with what holds of it.
pub record Faithful {X : Type 0} (read : List ℕ → Parse X) (sends : X → List ℕ) (Good : X → Type 0) : Type 0 where
  pub back : (x : X) (rest : List ℕ) → Good x → read (sends x ++ rest) ≡ Ok (x, rest)
  pub good : (bs : List ℕ) (x : X) (rest : List ℕ) → Bytes bs → read bs ≡ Ok (x, rest) → Good x
  pub so : (bs : List ℕ) (x : X) (rest : List ℕ) → Bytes bs → read bs ≡ Ok (x, rest) → bs ≡ sends x ++ rest

-- the same for many items
module _ {X : Type 0} (read : List ℕ → Parse X) (sends : X → List ℕ) (Good : X → Type 0) (one : Faithful read sends Good) where
  pub many-back : (xs : List X) (rest : List ℕ) → AllByRecursion Good xs → many read (length xs) (sent sends xs ++ rest) ≡ Ok (xs, rest)
  many-back [] rest u = refl
  many-back (x ∷ xs) rest u = rw (append_assoc, one.back x (sent sends xs ++ rest) u.0, many-back xs rest u.1)

  pub record Sent (n : ℕ) (bs : List ℕ) (xs : List X) (rest : List ℕ) : Type 0 where
    pub good : AllByRecursion Good xs
    pub count : length xs ≡ n
    pub so : bs ≡ sent sends xs ++ rest

  sent_cons : (n : ℕ) (bs : List ℕ) (x : X) (tail : List ℕ) (ys : List X) (more : List ℕ) (xs : List X) (rest : List ℕ)
      → bs ≡ sends x ++ tail → Good x → Sent n tail ys more → x ∷ ys ≡ xs → more ≡ rest → Sent (suc n) bs xs rest
  sent_cons n bs x tail ys more xs rest here ok i a b =
      let g = append_assoc (sends x) (sent sends ys) more in
      let j : bs ≡ sent sends (x ∷ ys) ++ more = here ∙ (ap (λ (zs : List ℕ). sends x ++ zs) i.so ∙ sym g) in
      rw (sym a, sym b) (record { good = (ok, i.good); count = ap suc i.count; so = j })

  pub many_sent : (n : ℕ) (bs : List ℕ) (xs : List X) (rest : List ℕ) → Bytes bs → many read n bs ≡ Ok (xs, rest) → Sent n bs xs rest
  many_sent zero bs xs rest u e =
      let a : [] ≡ xs = pair_0 e in
      let b : bs ≡ rest = pair_1 e in
      rw (sym a, sym b) (record { good = tt; count = refl; so = refl })
  many_sent (suc n) bs xs rest u e =
      let s = and_ok (read bs) (λ p. and_then (many read n p.1) (λ r. Ok (p.0 ∷ r.0, r.1))) (xs, rest) e in
      let x = s.0.0 in
      let tail = s.0.1 in
      let t = and_ok (many read n tail) (λ r. Ok (x ∷ r.0, r.1)) (xs, rest) s.2 in
      let ys = t.0.0 in
      let more = t.0.1 in
      let here = one.so bs x tail u s.1 in
      sent_cons n bs x tail ys more xs rest here (one.good bs x tail u s.1) (many_sent n tail ys more (bytes_after bs (sends x) tail u here) t.1) (pair_0 t.2) (pair_1 t.2)

-- a number in its range
module _ (whole low end : ℕ) (stop : Stop) where
  abbrev pub Within : ℕ → Type 0
  Within v = (low ≤ v) × (v < end) × (v ≤ number_limit)

  pub field_faithful : Faithful (field whole low end stop) spell Within
  field_faithful = record {
    back = λ v rest g. rw (number_reads_back (whole - length (spell v ++ rest)) v rest g.2, le-leb low v g.0, lt-ltb v end g.1);
    good = λ bs v rest u e.
        let s = and_ok (number_read (whole - length bs) bs) _ (v, rest) e in
        let c = cond_ok (leb low s.0.0 && ltb s.0.0 end) s.0 _ (v, rest) s.2 in
        let i : s.0.0 ≡ v = ap (λ (x : ℕ × List ℕ). x.0) c.1 in
        let b = and_parts (leb low s.0.0) (ltb s.0.0 end) c.0 in
        let p = number_spells_back (whole - length bs) bs s.0.0 s.0.1 u s.1 in
        rw (sym i) (leb-true low s.0.0 b.0, ltb-true s.0.0 end b.1, p.0);
    so = λ bs v rest u e.
        let s = and_ok (number_read (whole - length bs) bs) _ (v, rest) e in
        let c = cond_ok (leb low s.0.0 && ltb s.0.0 end) s.0 _ (v, rest) s.2 in
        let p = number_spells_back (whole - length bs) bs s.0.0 s.0.1 u s.1 in
        p.1 ∙ ap (λ (x : ℕ × List ℕ). spell x.0 ++ x.1) c.1;
  }

-- signed values
zag-zig : (z : ℤ) → zag (zig z) ≡ z
zag-zig (pos n) =
    let m : (2 * n) % 2 ≡ 0 = omega arith in
    let d : (2 * n) / 2 ≡ n = omega arith in
    rw (m, d)
zag-zig (negsuc n) =
    let m : (2 * n + 1) % 2 ≡ 1 = omega arith in
    let d : (2 * n + 1) / 2 ≡ n = omega arith in
    rw (m, d)

zig-zag : (u : ℕ) → zig (zag u) ≡ u
zig-zag u =
    elim (cases_Bool (eqb (u % 2) 0)) [
      | inl e ↦ let h = eqb-true (u % 2) 0 e in rw e (omega arith)
      | inr e ↦ let h = eqb-false (u % 2) 0 e in rw e (omega arith)
    ]

zig_limit : (z : ℤ) → voices_range z ≡ true → zig z ≤ number_limit
zig_limit (pos n) e = let h = ltb-true n (2 ^ 31) e in omega arith
zig_limit (negsuc n) e = let h = ltb-true n (2 ^ 31) e in omega arith

zag_range : (u : ℕ) → u ≤ number_limit → voices_range (zag u) ≡ true
zag_range u h =
    elim (cases_Bool (eqb (u % 2) 0)) [
      | inl e ↦ rw e (lt-ltb (u / 2) (2 ^ 31) (omega arith))
      | inr e ↦ rw e (lt-ltb (u / 2) (2 ^ 31) (omega arith))
    ]

-- the parts of an entry
signed_faithful : (b : Bool) (whole : ℕ) → Faithful (signed_read b whole) (λ z. part_bytes (signed_number b z)) (λ z. signed_fits b z ≡ true)
signed_faithful true whole = record {
  back = λ z rest g. rw (number_reads_back (whole - length (spell (zig z) ++ rest)) (zig z) rest (zig_limit z g), zag-zig z);
  good = λ bs z rest u e.
      let s = and_ok (number_read (whole - length bs) bs) _ (z, rest) e in
      let p = number_spells_back (whole - length bs) bs s.0.0 s.0.1 u s.1 in
      let i : zag s.0.0 ≡ z = pair_0 s.2 in
      rw (sym i) (zag_range s.0.0 p.0);
  so = λ bs z rest u e.
      let s = and_ok (number_read (whole - length bs) bs) _ (z, rest) e in
      let p = number_spells_back (whole - length bs) bs s.0.0 s.0.1 u s.1 in
      let i : zag s.0.0 ≡ z = pair_0 s.2 in
      let j : s.0.1 ≡ rest = pair_1 s.2 in
      let k : zig z ≡ s.0.0 = ap zig (sym i) ∙ zig-zag s.0.0 in
      p.1 ∙ (ap (λ (v : ℕ). spell v ++ s.0.1) (sym k) ∙ ap (λ (xs : List ℕ). spell (zig z) ++ xs) j);
}
signed_faithful false whole = record {
  back = λ z rest g. zero-back z rest g;
  good = λ bs z rest u e. let i : pos 0 ≡ z = pair_0 e in rw (sym i);
  so = λ bs z rest u e. pair_1 e;
}
  where
    zero-back : (z : ℤ) (rest : List ℕ) → signed_fits false z ≡ true → ◌≡◌ {A = Parse ℤ} (Ok (pos 0, rest)) (Ok (z, rest))
    zero-back (pos n) rest g = let h = eqb-true n 0 g in rw h
    zero-back (negsuc n) rest g = let z : false ≡ true = g in absurd (grind arith)

-- the largest value of a plain part is a number
abbrev SmallEnd : Option ℕ → Type 0
SmallEnd None = Unit {0}
SmallEnd (Some end) = end ≤ number_limit

plain_faithful : (o : Option ℕ) (whole : ℕ) → SmallEnd o → Faithful (plain_read o whole) (λ p. part_bytes (plain_number o p)) (λ p. plain_fits o p ≡ true)
plain_faithful None whole small = record {
  back = λ p rest g. let h = eqb-true p 0 g in rw h;
  good = λ bs p rest u e. let i : 0 ≡ p = pair_0 e in rw (sym i);
  so = λ bs p rest u e. pair_1 e;
}
plain_faithful (Some end) whole small =
    let f = field_faithful whole 0 end BadEntry in
    record {
      back = λ p rest g. let h = ltb-true p end g in f.back p rest (omega arith, h, small-part end p small h);
      good = λ bs p rest u e. lt-ltb p end (f.good bs p rest u e).1;
      so = f.so;
    }
  where
    small-part : (end p : ℕ) → SmallEnd (Some end) → p < end → p ≤ number_limit
    small-part end p h k = omega arith

plain_small : (kind : ChargeKind) → SmallEnd (plain_end kind)
plain_small Voices = tt
plain_small Pitch = lit≤ tt
plain_small Channels = lit≤ tt
plain_small Both = lit≤ tt
plain_small Cents = lit≤ tt

-- one part after another
module _ (kind : ChargeKind) (whole : ℕ) where
  signed : Faithful (signed_read (signed_part kind) whole) (λ z. part_bytes (signed_number (signed_part kind) z)) (λ z. signed_fits (signed_part kind) z ≡ true)
  signed = signed_faithful (signed_part kind) whole

  plain : Faithful (plain_read (plain_end kind) whole) (λ p. part_bytes (plain_number (plain_end kind) p)) (λ p. plain_fits (plain_end kind) p ≡ true)
  plain = plain_faithful (plain_end kind) whole (plain_small kind)

  -- an entry that is read, by its parts
  record Parts (bs : List ℕ) (e : Entry) (rest : List ℕ) : Type 0 where
    after : List ℕ
    signed-at : signed_read (signed_part kind) whole bs ≡ Ok (e.signed, after)
    plain_at : plain_read (plain_end kind) whole after ≡ Ok (e.plain, rest)

  parts : (bs : List ℕ) (e : Entry) (rest : List ℕ) → entry kind whole bs ≡ Ok (e, rest) → Parts bs e rest
  parts bs e rest q =
      let s = and_ok (signed_read (signed_part kind) whole bs) _ (e, rest) q in
      let t = and_ok (plain_read (plain_end kind) whole s.0.1) _ (e, rest) s.2 in
      let i : record { signed = s.0.0; plain = t.0.0 } ≡ e = pair_0 t.2 in
      let j : t.0.1 ≡ rest = pair_1 t.2 in
      record {
        after = s.0.1;
        signed-at = s.1 ∙ ap (λ (x : Entry). Ok (x.signed, s.0.1)) i;
        plain_at = t.1 ∙ (ap (λ (x : Entry). Ok (x.plain, t.0.1)) i ∙ ap (λ (xs : List ℕ). Ok (e.plain, xs)) j);
      }

  entry-so : (bs : List ℕ) (e : Entry) (rest : List ℕ) → Bytes bs → entry kind whole bs ≡ Ok (e, rest) → (fits kind e ≡ true) × (bs ≡ entry_bytes kind e ++ rest)
  entry-so bs e rest u q =
      let p = parts bs e rest q in
      let after = p.after in
      let a = signed.so bs e.signed after u p.signed-at in
      let ua = bytes_after bs (part_bytes (signed_number (signed_part kind) e.signed)) after u a in
      let b = plain.so after e.plain rest ua p.plain_at in
      let g = append_assoc (part_bytes (signed_number (signed_part kind) e.signed)) (part_bytes (plain_number (plain_end kind) e.plain)) rest in (
        and_from (signed_fits (signed_part kind) e.signed) (plain_fits (plain_end kind) e.plain) (signed.good bs e.signed after u p.signed-at) (plain.good after e.plain rest ua p.plain_at),
        a ∙ (ap (λ (xs : List ℕ). part_bytes (signed_number (signed_part kind) e.signed) ++ xs) b ∙ sym g),
      )

  pub entry_faithful : Faithful (entry kind whole) (entry_bytes kind) (λ e. fits kind e ≡ true)
  entry_faithful = record {
    back = λ e rest g.
        let both = and_parts (signed_fits (signed_part kind) e.signed) (plain_fits (plain_end kind) e.plain) g in
        rw (append_assoc, signed.back e.signed (part_bytes (plain_number (plain_end kind) e.plain) ++ rest) both.0, plain.back e.plain rest both.1);
    good = λ bs e rest u q. (entry-so bs e rest u q).0;
    so = λ bs e rest u q. (entry-so bs e rest u q).1;
  }
