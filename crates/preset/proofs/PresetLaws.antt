-- Reading and writing a preset undo one another. Assumes nothing.
use Rattle.std.proofs.Common.{◌≡◌, ℕ, suc, ◌+◌, ◌-◌, ◌^◌, ◌<◌, ◌≤◌, Bool, true, false, cond, ltb, leb, List, [], ◌∷◌, ◌++◌, length, take, Some, None, Ok, Err, Option, Result, sym, refl, ap, ◌∙◌, subst, ap₂, append_assoc, append-nil, arith, ltb-true, lt-ltb, le-leb, leb-true}
use Rattle.std.proofs.lemmas.List.{take_all, length-take-le}
use Rattle.std.proofs.lemmas.Bool.{and_parts}
use Rattle.std.proofs.lemmas.Bool.Decides.{nat_tests}
use Rattle.std.specs.Option.{ok_or, option_map}
use Rattle.std.specs.List.{AllByRecursion}
use Rattle.fault.specs.declared.Stop.{Stop}
use Rattle.fault.specs.declared.Stop.TheVariants.{UnknownKind, ShortStrip, TooManyWords, BadAlphabet, BadWindow, BadReach, BadWidth, BadLetter, BadEntry}
use Rattle.fault.specs.Limits.{most_window, most_width, most_words, few_words}
use Rattle.fault.specs.Refusals.{Refusal, refused_at}
use Rattle.charge.specs.declared.kind.ChargeKind.{ChargeKind}
use Rattle.charge.specs.declared.kind.ChargeKind.TheVariants.{Voices, Pitch, Channels, Both, Cents}
use Rattle.charge.specs.Numbers.{number_of, kind_of}
use Rattle.fault.specs.Answers.{and_then}
use Rattle.fault.specs.Checks.{each_fits, tested}
use Rattle.preset.specs.declared.entry.Entry.{Entry}
use Rattle.preset.specs.declared.header.Head.{Head}
use Rattle.preset.specs.declared.header.Header.{Header}
use Rattle.preset.specs.Entries.{letter, fits, entry, entry_bytes}
use Rattle.preset.specs.Fields.{field}
use Rattle.preset.specs.Heads.{head_of}
use Rattle.preset.specs.Items.{sent}
use Rattle.preset.specs.Laws.{Bytes, PresetReadsBack, PresetWritesBack, OneSpelling, PresetSizes}
use Rattle.preset.specs.Numbers.{number_read, number_limit, spell}
use Rattle.preset.specs.Presets.{PresetHead, Preset, item_count, kind_read, head_read, letters_read, entries_read, preset, nothing_after, whole_preset}
use Rattle.preset.specs.Scans.{Writable}
use Rattle.preset.specs.Sizes.{Sized}
use Rattle.preset.specs.Sound.{Sound}
use Rattle.preset.specs.Writes.{size_tests, head_checked, header_fronts, strips_checked, contents_checked, preset_to_write, header_numbers, preset_bytes}
use Rattle.preset.proofs.Faithful.{bytes_after, field_faithful, entry_faithful, many-back, many_sent}
use Rattle.preset.proofs.Heads.{letters_few, entries_few, head_done, sizes_pass}
use Rattle.preset.proofs.NumberLaws.{number_reads_back, number_spells_back}
use Rattle.preset.proofs.Outcomes.{never, ok-is, and_ok, cond_ok, pair_0, pair_1}
use Rattle.preset.proofs.Scanning.{preset-is}

-- a kind by its number
kind-number : (n : ℕ) (kind : ChargeKind) → kind_of n ≡ Some kind → number_of kind ≡ n
kind-number n Voices e = grind (arith, nat_tests)
kind-number n Pitch e = grind (arith, nat_tests)
kind-number n Channels e = grind (arith, nat_tests)
kind-number n Both e = grind (arith, nat_tests)
kind-number n Cents e = grind (arith, nat_tests)

number-kind : (kind : ChargeKind) → kind_of (number_of kind) ≡ Some kind
number-kind Voices = refl
number-kind Pitch = refl
number-kind Channels = refl
number-kind Both = refl
number-kind Cents = refl

number_small : (kind : ChargeKind) → number_of kind ≤ number_limit
number_small Voices = omega arith
number_small Pitch = omega arith
number_small Channels = omega arith
number_small Both = omega arith
number_small Cents = omega arith

-- where a test passes, what comes after it decides
then_rest : (b : Bool) (r : Result (Unit {0}) Refusal) (f : Refusal) → cond b r (Err f) ≡ Ok tt → (b ≡ true) × (r ≡ Ok tt)
then_rest true r f e = (refl, e)
then_rest false r f e = never e

passed : (ts : List (Bool × Stop)) → tested ts ≡ Ok tt → AllByRecursion (λ t. t.0 ≡ true) ts
passed [] e = tt
passed (t ∷ ts) e = let s = then_rest t.0 (tested ts) (refused_at t.1 0) e in (s.0, passed ts s.1)

-- sizes that pass every test are in their ranges
pub sized_from : (h : Header) → tested (size_tests h) ≡ Ok tt → Sized h
sized_from h e =
    let all = passed (size_tests h) e in
    let q = and_parts (leb 2 h.q) (ltb h.q 9) all.0 in
    let n = and_parts (leb 1 h.n) (ltb h.n 13) all.1.0 in
    let k = and_parts (leb 1 h.k) (ltb h.k 13) all.1.1.1.0 in
    record {
      letters_some = leb-true 2 h.q q.0;
      letters_most = omega (arith, ltb-true h.q 9 q.1);
      window_some = leb-true 1 h.n n.0;
      window = omega (arith, ltb-true h.n 13 n.1);
      reach = ltb-true h.l h.n all.1.1.0;
      width_some = leb-true 1 h.k k.0;
      width = omega (arith, ltb-true h.k 13 k.1);
      few = leb-true (h.q ^ (h.n + h.k - 1)) most_words all.1.1.1.1.0;
    }

-- each item is allowed
pub fits_from : {X : Type 0} (ok : X → Bool) (stop : Stop) (i : ℕ) (xs : List X) → each_fits ok stop i xs ≡ Ok tt → AllByRecursion (λ x. ok x ≡ true) xs
fits_from ok stop i [] e = tt
fits_from ok stop i (x ∷ xs) e =
    let s = then_rest (ok x) (each_fits ok stop (i + 1) xs) (refused_at stop i) e in
    (s.0, fits_from ok stop (i + 1) xs s.1)

pub fits_to : {X : Type 0} (ok : X → Bool) (stop : Stop) (i : ℕ) (xs : List X) → AllByRecursion (λ x. ok x ≡ true) xs → each_fits ok stop i xs ≡ Ok tt
fits_to ok stop i [] u = refl
fits_to ok stop i (x ∷ xs) u = rw u.0 (fits_to ok stop (i + 1) xs u.1)

-- a header that passed, with the kind that it names
pub head_from : (h : Header) (head : PresetHead) → head_checked h ≡ Ok head → (head.header ≡ h) × (kind_of h.kind ≡ Some head.kind) × Sized h
head_from h head e =
    let s = and_ok (ok_or (kind_of h.kind) (refused_at UnknownKind 0)) (λ kind. and_then (tested (size_tests h)) (λ _. Ok (record { kind = kind; header = h }))) head e in
    let t = and_ok (tested (size_tests h)) (λ _. Ok (record { kind = s.0; header = h })) head s.2 in
    let i : record { kind = s.0; header = h } ≡ head = ok-is t.2 in
    (sym (ap (λ (x : PresetHead). x.header) i), ok_or-some (kind_of h.kind) (refused_at UnknownKind 0) s.0 s.1 ∙ ap (λ (x : PresetHead). Some x.kind) i, sized_from h t.1)
  where
    ok_or-some : {X : Type 0} (o : Option X) (f : Refusal) (x : X) → ok_or o f ≡ Ok x → o ≡ Some x
    ok_or-some None f x e = never e
    ok_or-some (Some y) f x e = let i : y ≡ x = cc in ap (λ z. Some z) i

pub sound_from : (h : Header) (letters : List ℕ) (entries : List Entry) (p : Preset) → preset_to_write h letters entries ≡ Ok p → Sound p
sound_from h letters entries p e =
    let a = and_ok (head_checked h) _ p e in
    let head = a.0 in
    let b = and_ok (strips_checked head letters entries) _ p a.2 in
    let c = and_ok (contents_checked b.0) (λ _. Ok b.0) p b.2 in
    let f = head_from h head a.1 in
    let s = cond_ok _ (header_fronts head letters entries) (refused_at ShortStrip 0) b.0 b.1 in
    let room = and_parts (leb (head.header.q ^ head.header.n) (length letters)) (leb (head.header.q ^ head.header.k) (length entries)) s.0 in
    let is : header_fronts head letters entries ≡ p = s.1 ∙ ok-is c.2 in
    let d = and_ok (each_fits (λ x. ltb x b.0.head.header.q) BadLetter 0 b.0.letters) (λ _. each_fits (fits b.0.head.kind) BadEntry 0 b.0.entries) tt c.1 in
    let g : Sound (header_fronts head letters entries) = record {
      named = kind-number h.kind head.kind f.1 ∙ ap (λ (x : Header). x.kind) (sym f.0);
      sized = rw f.0 f.2;
      letter_count = length-take-le (head.header.q ^ head.header.n) letters (leb-true _ _ room.0);
      entry_count = length-take-le (head.header.q ^ head.header.k) entries (leb-true _ _ room.1);
      letters_fit = subst (λ (x : Preset). AllByRecursion (λ y. ltb y x.head.header.q ≡ true) x.letters) (sym s.1) (fits_from (λ x. ltb x b.0.head.header.q) BadLetter 0 b.0.letters d.1);
      entries_fit = subst (λ (x : Preset). AllByRecursion (λ y. fits x.head.kind y ≡ true) x.entries) (sym s.1) (fits_from (fits b.0.head.kind) BadEntry 0 b.0.entries d.2);
    } in
    rw (sym is) g

-- a header that passed, and fronts of two strips whose items are allowed, are a preset that may be written
pub writable : (h : Header) (letters : List ℕ) (entries : List Entry) (head : Head) (letter_count entry_count : ℕ)
    → letter_count ≡ head.header.q ^ head.header.n → entry_count ≡ head.header.q ^ head.header.k
    → letter_count ≤ length letters → entry_count ≤ length entries → Ok (head_of head) ≡ head_checked h
    → Ok tt ≡ contents_checked (record { head = head_of head; letters = take letter_count letters; entries = take entry_count entries })
    → Writable h letters entries head
writable h letters entries head ln en le ee lr er passes contents =
    let same : head.header ≡ h = (head_from h (head_of head) (sym passes)).0 in
    let lroom : head.header.q ^ head.header.n ≤ length letters = omega (arith, le, lr) in
    let eroom : head.header.q ^ head.header.k ≤ length entries = omega (arith, ee, er) in
    let strips : strips_checked (head_of head) letters entries ≡ Ok (header_fronts (head_of head) letters entries) = rw (le-leb _ _ lroom, le-leb _ _ eroom) in
    let items : contents_checked (header_fronts (head_of head) letters entries) ≡ Ok tt =
    subst (λ (x : ℕ). contents_checked (record { head = head_of head; letters = take x letters; entries = take (head.header.q ^ head.header.k) entries }) ≡ Ok tt) le
    (subst (λ (x : ℕ). contents_checked (record { head = head_of head; letters = take ln letters; entries = take x entries }) ≡ Ok tt) ee (sym contents)) in
    record {
      is = rw (sym passes, strips, items);
      same = same;
      letter_room = rw (sym same) lroom;
      entry_room = rw (sym same) eroom;
    }

checked_from : (p : Preset) → Sound p → preset_to_write p.head.header p.letters p.entries ≡ Ok p
checked_from p g =
    let h = p.head.header in
    let kind : kind_of h.kind ≡ Some p.head.kind = ap kind_of (sym g.named) ∙ number-kind p.head.kind in
    let ls = take_all (h.q ^ h.n) p.letters (omega (arith, g.letter_count)) in
    let es = take_all (h.q ^ h.k) p.entries (omega (arith, g.entry_count)) in
    let lroom = le-leb (h.q ^ h.n) (length p.letters) (omega (arith, g.letter_count)) in
    let eroom = le-leb (h.q ^ h.k) (length p.entries) (omega (arith, g.entry_count)) in
    let head : head_checked h ≡ Ok p.head = rw (kind, sizes_pass h g.sized) in
    let strips : strips_checked p.head p.letters p.entries ≡ Ok p = rw (lroom, eroom, ls, es) in
    let contents : contents_checked p ≡ Ok tt = rw (fits_to (λ x. ltb x h.q) BadLetter 0 p.letters g.letters_fit) (fits_to (fits p.head.kind) BadEntry 0 p.entries g.entries_fit) in
    rw (head, strips, contents)

-- five numbers, one after another
five : (a b c d e tail : List ℕ) → (a ++ (b ++ (c ++ (d ++ (e ++ []))))) ++ tail ≡ a ++ (b ++ (c ++ (d ++ (e ++ tail))))
five a b c d e tail = simp append_assoc

header-reads : (whole : ℕ) (head : PresetHead) (tail : List ℕ) → number_of head.kind ≡ head.header.kind → Sized head.header
    → head_read whole (sent spell (header_numbers head.header) ++ tail) ≡ Ok (head, tail)
header-reads whole head tail named s =
    let h = head.header in
    let r₅ = tail in
    let r₄ = spell h.k ++ r₅ in
    let r₃ = spell h.l ++ r₄ in
    let r₂ = spell h.n ++ r₃ in
    let r₁ = spell h.q ++ r₂ in
    let bs = spell h.kind ++ r₁ in
    let small : h.kind ≤ number_limit = omega (arith, number_small head.kind) in
    let kind : kind_of h.kind ≡ Some head.kind = ap kind_of (sym named) ∙ number-kind head.kind in
    let e₁ : kind_read whole bs ≡ Ok (head.kind, r₁) = rw (number_reads_back (whole - length bs) h.kind r₁ small, kind) in
    let e₂ = (field_faithful whole 2 9 BadAlphabet).back h.q r₂ (omega arith, omega arith, omega arith) in
    let e₃ = (field_faithful whole 1 13 BadWindow).back h.n r₃ (omega arith, omega arith, omega arith) in
    let e₄ = (field_faithful whole 0 h.n BadReach).back h.l r₄ (omega arith, s.reach, omega arith) in
    let e₅ = (field_faithful whole 1 13 BadWidth).back h.k r₅ (omega arith, omega arith, omega arith) in
    let done = head_done whole bs r₁ r₂ r₃ r₄ r₅ head.kind h.kind h.q h.n h.l h.k (sym e₁) (sym e₂) (sym e₃) (sym e₄) (sym e₅) (le-leb (h.q ^ (h.n + h.k - 1)) most_words s.few) (sym named) in
    ap (head_read whole) (five (spell h.kind) (spell h.q) (spell h.n) (spell h.l) (spell h.k) tail) ∙ sym done

-- a letter is a small number
letter-within : (whole q : ℕ) → q < 9 → (xs : List ℕ) → AllByRecursion (λ x. ltb x q ≡ true) xs → AllByRecursion (λ x. (0 ≤ x) × (x < q) × (x ≤ number_limit)) xs
letter-within whole q h [] u = tt
letter-within whole q h (x ∷ xs) u = let k = ltb-true x q u.0 in ((omega arith, k, omega arith), letter-within whole q h xs u.1)

within-letter : (q : ℕ) (xs : List ℕ) → AllByRecursion (λ x. (0 ≤ x) × (x < q) × (x ≤ number_limit)) xs → AllByRecursion (λ x. ltb x q ≡ true) xs
within-letter q [] u = tt
within-letter q (x ∷ xs) u = (lt-ltb x q u.0.1, within-letter q xs u.1)

sound-reads : (p : Preset) (rest : List ℕ) → Sound p → preset (preset_bytes p ++ rest) ≡ Ok (p, rest)
sound-reads p rest g =
    let h = p.head.header in
    let bs = preset_bytes p ++ rest in
    let whole = length bs in
    let numbers = sent spell (header_numbers h) in
    let letters = sent spell p.letters in
    let entries = sent (entry_bytes p.head.kind) p.entries in
    let joins : bs ≡ numbers ++ (letters ++ (entries ++ rest)) = append_assoc numbers (letters ++ entries) rest ∙ ap (λ (xs : List ℕ). numbers ++ xs) (append_assoc letters entries rest) in
    let ls : letters_read whole p.head (letters ++ (entries ++ rest)) ≡ Ok (p.letters, entries ++ rest) =
    rw (sym g.letter_count) (many-back (letter h.q whole) spell _ (field_faithful whole 0 h.q BadLetter) p.letters (entries ++ rest) (letter-within whole h.q (omega arith) p.letters g.letters_fit)) in
    let es : entries_read whole p.head (entries ++ rest) ≡ Ok (p.entries, rest) =
    rw (sym g.entry_count) (many-back (entry p.head.kind whole) (entry_bytes p.head.kind) _ (entry_faithful p.head.kind whole) p.entries rest g.entries_fit) in
    preset-is bs (letters ++ (entries ++ rest)) (entries ++ rest) rest p.head p.letters p.entries
    (ap (head_read whole) joins ∙ header-reads whole p.head (letters ++ (entries ++ rest)) g.named g.sized) ls es

pub preset_reads_back : PresetReadsBack
preset_reads_back h letters entries p rest e = sound-reads p rest (sound_from h letters entries p e)

-- What a header that was read is, and the bytes that it was read from.
record HeaderSent (bs : List ℕ) (head : PresetHead) (tail : List ℕ) : Type 0 where
  named : number_of head.kind ≡ head.header.kind
  sized : Sized head.header
  so : bs ≡ sent spell (header_numbers head.header) ++ tail

kind-so : (whole : ℕ) (bs : List ℕ) (kind : ChargeKind) (rest : List ℕ) → Bytes bs → kind_read whole bs ≡ Ok (kind, rest) → bs ≡ spell (number_of kind) ++ rest
kind-so whole bs kind rest u e =
    let s = and_ok (number_read (whole - length bs) bs) _ (kind, rest) e in
    let p = number_spells_back (whole - length bs) bs s.0.0 s.0.1 u s.1 in
    let n = named-so (kind_of s.0.0) s.0.1 (refused_at UnknownKind (whole - length bs)) s.2 in
    let i = kind-number s.0.0 kind n.0 in
    p.1 ∙ ap₂ (λ (v : ℕ) (xs : List ℕ). spell v ++ xs) (sym i) n.1
  where
    named-so : (o : Option ChargeKind) (tail : List ℕ) (f : Refusal) → ok_or {T = ChargeKind × List ℕ} (option_map (λ k. (k, tail)) o) f ≡ Ok (kind, rest) → (o ≡ Some kind) × (tail ≡ rest)
    named-so None tail f e = never e
    named-so (Some k) tail f e = let i : k ≡ kind = pair_0 e in (ap (λ (x : ChargeKind). Some x) i, pair_1 e)

header-sent : (whole : ℕ) (bs : List ℕ) (head : PresetHead) (tail : List ℕ) → Bytes bs → head_read whole bs ≡ Ok (head, tail) → HeaderSent bs head tail
header-sent whole bs head tail u e =
    let kd = and_ok (kind_read whole bs) _ (head, tail) e in
    let kind = kd.0.0 in
    let r₁ = kd.0.1 in
    let q = and_ok (field whole 2 9 BadAlphabet r₁) _ (head, tail) kd.2 in
    let r₂ = q.0.1 in
    let n = and_ok (field whole 1 13 BadWindow r₂) _ (head, tail) q.2 in
    let r₃ = n.0.1 in
    let l = and_ok (field whole 0 n.0.0 BadReach r₃) _ (head, tail) n.2 in
    let r₄ = l.0.1 in
    let k = and_ok (field whole 1 13 BadWidth r₄) _ (head, tail) l.2 in
    let r₅ = k.0.1 in
    let h : Header = record { kind = number_of kind; q = q.0.0; n = n.0.0; l = l.0.0; k = k.0.0 } in
    let done = cond_ok (few_words h.q (h.n + h.k - 1)) (record { kind = kind; header = h }, r₅) (refused_at TooManyWords (whole - length r₄)) (head, tail) k.2 in
    let s₁ = kind-so whole bs kind r₁ u kd.1 in
    let u₁ = bytes_after bs (spell h.kind) r₁ u s₁ in
    let f₂ = field_faithful whole 2 9 BadAlphabet in
    let s₂ = f₂.so r₁ h.q r₂ u₁ q.1 in
    let g₂ = f₂.good r₁ h.q r₂ u₁ q.1 in
    let u₂ = bytes_after r₁ (spell h.q) r₂ u₁ s₂ in
    let f₃ = field_faithful whole 1 13 BadWindow in
    let s₃ = f₃.so r₂ h.n r₃ u₂ n.1 in
    let g₃ = f₃.good r₂ h.n r₃ u₂ n.1 in
    let u₃ = bytes_after r₂ (spell h.n) r₃ u₂ s₃ in
    let f₄ = field_faithful whole 0 h.n BadReach in
    let s₄ = f₄.so r₃ h.l r₄ u₃ l.1 in
    let g₄ = f₄.good r₃ h.l r₄ u₃ l.1 in
    let u₄ = bytes_after r₃ (spell h.l) r₄ u₃ s₄ in
    let f₅ = field_faithful whole 1 13 BadWidth in
    let s₅ = f₅.so r₄ h.k r₅ u₄ k.1 in
    let g₅ = f₅.good r₄ h.k r₅ u₄ k.1 in
    sent-head bs r₁ r₂ r₃ r₄ r₅ kind h head tail s₁ s₂ s₃ s₄ s₅ refl
    (record { letters_some = g₂.0; letters_most = omega (arith, g₂.1); window_some = g₃.0; window = omega (arith, g₃.1); reach = g₄.1; width_some = g₅.0; width = omega (arith, g₅.1); few = leb-true (h.q ^ (h.n + h.k - 1)) most_words done.0 })
    (ap (λ (x : PresetHead × List ℕ). x.0) done.1) (ap (λ (x : PresetHead × List ℕ). x.1) done.1)
  where
    sent-head : (bs r₁ r₂ r₃ r₄ r₅ : List ℕ) (kind : ChargeKind) (h : Header) (head : PresetHead) (tail : List ℕ)
        → bs ≡ spell h.kind ++ r₁ → r₁ ≡ spell h.q ++ r₂ → r₂ ≡ spell h.n ++ r₃ → r₃ ≡ spell h.l ++ r₄ → r₄ ≡ spell h.k ++ r₅
        → number_of kind ≡ h.kind → Sized h → record { kind = kind; header = h } ≡ head → r₅ ≡ tail → HeaderSent bs head tail
    sent-head bs r₁ r₂ r₃ r₄ r₅ kind h head tail s₁ s₂ s₃ s₄ s₅ named sized i j =
        let whole : bs ≡ spell h.kind ++ (spell h.q ++ (spell h.n ++ (spell h.l ++ (spell h.k ++ r₅)))) = rw (s₁, s₂, s₃, s₄, s₅) in
        let so : bs ≡ sent spell (header_numbers h) ++ r₅ = whole ∙ sym (five (spell h.kind) (spell h.q) (spell h.n) (spell h.l) (spell h.k) r₅) in
        let made : HeaderSent bs (record { kind = kind; header = h }) r₅ = record { named = named; sized = sized; so = so } in
        rw (sym i, sym j) made

-- What a preset that was read is, and the bytes that it was read from.
record PresetSent (bs : List ℕ) (p : Preset) (rest : List ℕ) : Type 0 where
  good : Sound p
  so : bs ≡ preset_bytes p ++ rest

preset-sent : (bs : List ℕ) (p : Preset) (rest : List ℕ) → Bytes bs → preset bs ≡ Ok (p, rest) → PresetSent bs p rest
preset-sent bs p rest u e =
    let whole = length bs in
    let a = and_ok (head_read whole bs) _ (p, rest) e in
    let head = a.0.0 in
    let r₁ = a.0.1 in
    let b = and_ok (letters_read whole head r₁) _ (p, rest) a.2 in
    let ls = b.0.0 in
    let r₂ = b.0.1 in
    let c = and_ok (entries_read whole head r₂) _ (p, rest) b.2 in
    let es = c.0.0 in
    let r₃ = c.0.1 in
    let hs = header-sent whole bs head r₁ u a.1 in
    let u₁ = bytes_after bs (sent spell (header_numbers head.header)) r₁ u hs.so in
    let q = head.header.q in
    let l = many_sent (letter q whole) spell _ (field_faithful whole 0 q BadLetter) (q ^ head.header.n) r₁ ls r₂ u₁ b.1 in
    let u₂ = bytes_after r₁ (sent spell ls) r₂ u₁ l.so in
    let x = many_sent (entry head.kind whole) (entry_bytes head.kind) _ (entry_faithful head.kind whole) (q ^ head.header.k) r₂ es r₃ u₂ c.1 in
    sent_all bs r₁ r₂ r₃ head ls es p rest hs.so l.so x.so
    (record { named = hs.named; sized = hs.sized; letter_count = l.count; entry_count = x.count; letters_fit = within-letter q ls l.good; entries_fit = x.good })
    (pair_0 c.2) (pair_1 c.2)
  where
    sent_all : (bs r₁ r₂ r₃ : List ℕ) (head : PresetHead) (ls : List ℕ) (es : List Entry) (p : Preset) (rest : List ℕ)
        → bs ≡ sent spell (header_numbers head.header) ++ r₁ → r₁ ≡ sent spell ls ++ r₂ → r₂ ≡ sent (entry_bytes head.kind) es ++ r₃
        → Sound (record { head = head; letters = ls; entries = es }) → record { head = head; letters = ls; entries = es } ≡ p → r₃ ≡ rest → PresetSent bs p rest
    sent_all bs r₁ r₂ r₃ head ls es p rest s₁ s₂ s₃ good i j =
        let numbers = sent spell (header_numbers head.header) in
        let letters = sent spell ls in
        let entries = sent (entry_bytes head.kind) es in
        let joins : (numbers ++ (letters ++ entries)) ++ r₃ ≡ numbers ++ (letters ++ (entries ++ r₃)) = simp append_assoc in
        let so : bs ≡ (numbers ++ (letters ++ entries)) ++ r₃ = rw (s₁, s₂, s₃) (sym joins) in
        let made : PresetSent bs (record { head = head; letters = ls; entries = es }) r₃ = record { good = good; so = so } in
        rw (sym i, sym j) made

pub preset_writes_back : PresetWritesBack
preset_writes_back bs p rest u e = let s = preset-sent bs p rest u e in (checked_from p s.good, s.so)

-- a whole preset leaves no bytes
whole_is : (bs : List ℕ) (p : Preset) → whole_preset bs ≡ Ok p → preset bs ≡ Ok (p, [])
whole_is bs p e =
    let a = and_ok (preset bs) (nothing_after (length bs)) p e in
    let i = ended_so (length bs) a.0.0 a.0.1 a.2 in
    a.1 ∙ ap₂ (λ (x : Preset) (xs : List ℕ). Ok (x, xs)) i.0 i.1
  where
    ended_so : (whole : ℕ) (x : Preset) (rest : List ℕ) → nothing_after whole (x, rest) ≡ Ok p → (x ≡ p) × (rest ≡ [])
    ended_so whole x [] e = (cc, refl)
    ended_so whole x (b ∷ rest) e = never e

pub whole-sound : (bs : List ℕ) (p : Preset) → Bytes bs → whole_preset bs ≡ Ok p → Sound p
whole-sound bs p u e = (preset-sent bs p [] u (whole_is bs p e)).good

pub whole-so : (bs : List ℕ) (p : Preset) → Bytes bs → whole_preset bs ≡ Ok p → (preset_to_write p.head.header p.letters p.entries ≡ Ok p) × (bs ≡ preset_bytes p)
whole-so bs p u e =
    let s = preset_writes_back bs p [] u (whole_is bs p e) in
    (s.0, s.1 ∙ append-nil (preset_bytes p))

pub one_spelling : OneSpelling
one_spelling bs cs p u v e f = (whole-so bs p u e).1 ∙ sym (whole-so cs p v f).1

pub counted-some : (most q m count : ℕ) → 2 ≤ q → q ≤ 8 → 1 ≤ m → m ≤ most → q ^ m ≤ most_words → count ≡ q ^ m → item_count most q m ≡ Some count
counted-some most q m count q₁ q₂ m₁ m₂ few e =
    rw (le-leb 1 m m₁, lt-ltb m (suc most) (omega arith), le-leb 2 q q₁, lt-ltb q 9 (omega arith), le-leb (q ^ m) most_words few, e)

pub preset_sizes : PresetSizes
preset_sizes bs p u e =
    let g = whole-sound bs p u e in
    let h = p.head.header in
    let s = g.sized in (
      ap kind_of (sym g.named) ∙ number-kind p.head.kind,
      counted-some most_window h.q h.n (length p.letters) s.letters_some s.letters_most s.window_some s.window (letters_few h s) g.letter_count,
      counted-some most_width h.q h.k (length p.entries) s.letters_some s.letters_most s.width_some s.width (entries_few h s) g.entry_count,
    )
