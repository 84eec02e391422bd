-- Reading and spelling a number undo one another, and which bytes are refused. Assumes nothing.
use Rattle.std.proofs.Common.{◌≡◌, ℕ, zero, suc, ◌+◌, ◌*◌, ◌/◌, ◌%◌, ◌^◌, ◌<◌, ◌≤◌, true, false, eqb, leb, List, [], ◌∷◌, ◌++◌, map, length, get_or, take, drop, Ok, Err, sym, refl, ap, ◌∙◌, inl, inr, append_assoc, append-nil, div-add-mod', arith, length-append, ltb-false, ltb-true, le-ltb, lt-ltb, eqb-true, leb-false, leb-true}
use borrow.Author.Tests.{eqb-false}
use Rattle.std.proofs.lemmas.Nat.{div_below, mod_below, div-mul-add, mod-mul-add}
use Rattle.std.proofs.lemmas.Int.Digits.{digits_of_step, length-digits_of-le, all_below_base_digits_of, first_digits_of, number_digits_of, number_push}
use Rattle.std.proofs.ByRecursion.{All-take}
use Rattle.std.proofs.lemmas.List.{length-map, length_push, map_push, take_at, drop_at, take_all, take-take, take_more, take-append-drop, length-take-le, drop_more}
use Rattle.std.proofs.lemmas.Bool.{cases_Bool, or_cases, or_parts, and_parts}
use Rattle.std.proofs.lemmas.Bool.Decides.{nat_tests, leb_tells}
use Rattle.std.specs.Int.Digits.{digits_of as digits, number_from_digits_after, number_from_digits, AllBelowBase}
use Rattle.std.specs.List.{AllByRecursion}
use Rattle.fault.specs.declared.Stop.TheVariants.{CutShort, Misspelt}
use Rattle.fault.specs.Refusals.{refused_at}
use Rattle.preset.specs.Answers.{Parse}
use Rattle.preset.specs.Numbers.{number_limit, most_bytes, spell, tops, value, finished, first, misspelt, number_read, IsCutShort, Misspelling, leading, long, large, NumberRefusals, NumberReadsBack, NumberSpellsBack}
use Rattle.preset.proofs.Outcomes.{never}
use Rattle.preset.proofs.Reading.{number-leading, number-long, number-large, number_cut, number_is}

-- a byte with its top bit set
abbrev Top : ℕ → Type 0
Top b = 128 ≤ b

tops_le : (bs : List ℕ) → tops bs ≤ length bs
tops_le [] = omega arith
tops_le (b ∷ bs) = let h = tops_le bs in grind (arith, nat_tests)

tops_all : (bs : List ℕ) → AllByRecursion Top (take (tops bs) bs)
tops_all [] = tt
tops_all (b ∷ bs) =
    elim (leb_tells (suc b) 128) [
      | inl p ↦ rw p.0 tt
      | inr p ↦ rw p.0 (omega arith, tops_all bs)
    ]

tops-stop : (bs : List ℕ) → tops bs < length bs → get_or bs (tops bs) 0 < 128
tops-stop [] h = absurd (omega arith)
tops-stop (b ∷ bs) h =
    elim (leb_tells (suc b) 128) [
      | inl p ↦ rw p.0 (omega arith)
      | inr p ↦ rw p.0 (tops-stop bs (let h' = rw p.0 at h in omega arith))
    ]

-- bytes with their top bit set come first
tops-front : (hs ys : List ℕ) → AllByRecursion Top hs → tops (hs ++ ys) ≡ length hs + tops ys
tops-front [] ys u = omega arith
tops-front (b ∷ hs) ys u = rw (le-ltb b 128 u.0) (omega (arith, tops-front hs ys u.1))

tops_last : (hs : List ℕ) (r : ℕ) (rest : List ℕ) → AllByRecursion Top hs → r < 128 → tops (hs ++ (r ∷ rest)) ≡ length hs
tops_last hs r rest u h = let z : tops (r ∷ rest) ≡ 0 = rw (lt-ltb r 128 h) in omega (arith, tops-front hs (r ∷ rest) u)

take_last : (hs : List ℕ) (r : ℕ) (rest : List ℕ) → take (length hs + 1) (hs ++ (r ∷ rest)) ≡ hs ++ (r ∷ [])
take_last hs r rest =
    let a = append_assoc hs (r ∷ []) rest in
    ap (take (length hs + 1)) (sym a) ∙ take_at (hs ++ (r ∷ [])) rest (length hs + 1) (length_push hs r)

drop_last : (hs : List ℕ) (r : ℕ) (rest : List ℕ) → drop (length hs + 1) (hs ++ (r ∷ rest)) ≡ rest
drop_last hs r rest =
    let a = append_assoc hs (r ∷ []) rest in
    ap (drop (length hs + 1)) (sym a) ∙ drop_at (hs ++ (r ∷ [])) rest (length hs + 1) (length_push hs r)

longer : (hs : List ℕ) (r : ℕ) (rest : List ℕ) → length hs < length (hs ++ (r ∷ rest))
longer hs r rest = omega (arith, length-append hs (r ∷ rest))

-- the groups of bytes that hold ds
groups_of : (ds : List ℕ) → AllBelowBase 128 ds → map (λ b. b % 128) (map (λ d. 128 + d) ds) ≡ ds
groups_of [] u = refl
groups_of (d ∷ ds) u =
    let e : (128 + d) % 128 ≡ d = omega arith in
    let f = groups_of ds u.1 in
    cc

tops_of : (ds : List ℕ) → AllByRecursion Top (map (λ d. 128 + d) ds)
tops_of [] = tt
tops_of (d ∷ ds) = (omega arith, tops_of ds)

value_last : (hs : List ℕ) (r : ℕ) → value (hs ++ (r ∷ [])) ≡ value hs * 128 + r % 128
value_last hs r = ap (number_from_digits 128) (map_push (λ b. b % 128) hs r) ∙ number_push 128 (map (λ b. b % 128) hs) (r % 128)

-- the first byte of a spelling is not 80 hexadecimal
lead : (ds : List ℕ) (r : ℕ) (rest : List ℕ) → r < 128 → (0 < length ds → 0 < get_or ds 0 0) → get_or (map (λ d. 128 + d) ds ++ (r ∷ rest)) 0 0 ≡ 128 → ⊥
lead [] r rest h k e = omega arith
lead (d ∷ ds) r rest h k e = let q : 0 < d = k (omega arith) in omega arith

some-digits : (n : ℕ) → 0 < length (digits 128 n) → 0 < n
some-digits zero h = h
some-digits (suc n) h = omega arith

pub number_reads_back : NumberReadsBack
number_reads_back place v rest small =
    let high = v / 128 in
    let ds = digits 128 high in
    let hs = map (λ d. 128 + d) ds in
    let r = v % 128 in
    let rl : r < 128 = mod_below v 128 (omega arith) in
    let few : length ds ≤ 4 = length-digits_of-le 128 4 high (omega arith) (div_below v 128 (128 ^ 4) (omega arith) (omega arith)) in
    let size : length hs ≡ length ds = length-map ds (λ d. 128 + d) in
    let led = lead ds r rest rl (λ s. first_digits_of 128 high (omega arith) (some-digits high s)) in
    let t = tops_last hs r rest (tops_of ds) rl in
    let whole : value hs ≡ high = ap (number_from_digits 128) (groups_of ds (all_below_base_digits_of 128 high (omega arith))) ∙ number_digits_of 128 high (omega arith) in
    let low : r % 128 ≡ r = omega arith in
    let v-is : value (take (length hs + 1) (hs ++ (r ∷ rest))) ≡ v = ap value (take_last hs r rest) ∙ (value_last hs r ∙ omega (arith, div-add-mod' v 128)) in
    let is = number_is place (hs ++ (r ∷ rest)) led (omega arith) (length hs) t (longer hs r rest) (omega arith) in
    rw append_assoc (is ∙ rw (v-is, drop_last hs r rest))

-- the three answers to a number
data Outcome (place : ℕ) (bs : List ℕ) : Type 0 where
  bad : misspelt bs ≡ true → number_read place bs ≡ Err (refused_at Misspelt place) → Outcome place bs
  done : misspelt bs ≡ false → finished bs ≡ true → number_read place bs ≡ Ok (value (first bs), drop (tops bs + 1) bs) → Outcome place bs
  cut : misspelt bs ≡ false → finished bs ≡ false → number_read place bs ≡ Err (refused_at CutShort place) → Outcome place bs

outcome : (place : ℕ) (bs : List ℕ) → Outcome place bs
outcome place bs =
    elim (cases_Bool (misspelt bs)) [
      | inl m ↦ bad m (rw m)
      | inr m ↦ elim (cases_Bool (finished bs)) [
        | inl f ↦ done m f (rw (m, f))
        | inr f ↦ cut m f (rw (m, f))
      ]
    ]

-- what is known of bytes that are not misspelt
record Well (bs : List ℕ) : Type 0 where
  led : get_or bs 0 0 ≡ 128 → ⊥
  few : tops bs < most_bytes
  small : finished bs ≡ true → value (first bs) ≤ number_limit

well : (bs : List ℕ) → misspelt bs ≡ false → Well bs
well bs m =
    let a = or_parts (eqb (get_or bs 0 0) 128) _ m in
    let b = or_parts (leb most_bytes (tops bs)) _ a.1 in
    record {
      led = eqb-false (get_or bs 0 0) 128 a.0;
      few = leb-false most_bytes (tops bs) b.0;
      small = λ f. let s = b.1 in grind (arith, nat_tests);
    }

digits_after : (h : ℕ) (ds : List ℕ) → 0 < h → AllBelowBase 128 ds → digits 128 (number_from_digits_after 128 h ds) ≡ digits 128 h ++ ds
digits_after h [] k u = sym (append-nil (digits 128 h))
digits_after h (d ∷ ds) k u =
    let n = h * 128 + d in
    let a = digits_after n ds (omega arith) u.1 in
    let s = digits_of_step 128 n (omega arith) (omega arith) in
    let q : n / 128 ≡ h = div-mul-add h 128 d u.0 in
    let r : n % 128 ≡ d = mod-mul-add h 128 d u.0 in
    let t = append_assoc (digits 128 h) (d ∷ []) ds in
    cc

-- the digits of a number that does not begin with 0
digits_of : (ds : List ℕ) → AllBelowBase 128 ds → (0 < length ds → 0 < get_or ds 0 0) → digits 128 (number_from_digits 128 ds) ≡ ds
digits_of [] u k = refl
digits_of (d ∷ ds) u k =
    let z : 0 * 128 + d ≡ d = omega arith in
    let p : 0 < d = k (omega arith) in
    let s = digits_of_step 128 d (omega arith) p in
    let q : d / 128 ≡ 0 = omega arith in
    let r : d % 128 ≡ d = omega arith in
    let a = digits_after d ds p u.1 in
    cc

-- bytes with their top bit set are their groups with 128 added
tops_are : (hs : List ℕ) → AllByRecursion Top hs → AllByRecursion (λ b. b < 256) hs → map (λ d. 128 + d) (map (λ b. b % 128) hs) ≡ hs
tops_are [] u k = refl
tops_are (b ∷ hs) u k =
    let e : 128 + b % 128 ≡ b = omega arith in
    let f = tops_are hs u.1 k.1 in
    cc

under_groups : (hs : List ℕ) → AllBelowBase 128 (map (λ b. b % 128) hs)
under_groups [] = tt
under_groups (b ∷ hs) = (mod_below b 128 (omega arith), under_groups hs)

-- bytes that do not begin with 80 hexadecimal have no leading group of zeros
leads : (hs : List ℕ) (ys : List ℕ) → AllByRecursion Top hs → AllByRecursion (λ b. b < 256) hs → (get_or (hs ++ ys) 0 0 ≡ 128 → ⊥) → 0 < length (map (λ b. b % 128) hs) → 0 < get_or (map (λ b. b % 128) hs) 0 0
leads [] ys u k n h = h
leads (b ∷ hs) ys u k n h = omega arith

-- bytes that spell a number are its spelling
spelt-so : (hs : List ℕ) (r : ℕ) (ys : List ℕ) → AllByRecursion Top hs → AllByRecursion (λ b. b < 256) hs → r < 128 → (get_or (hs ++ ys) 0 0 ≡ 128 → ⊥) → spell (value (hs ++ (r ∷ []))) ≡ hs ++ (r ∷ [])
spelt-so hs r ys u k h n =
    let ds = map (λ b. b % 128) hs in
    let low : r % 128 ≡ r = omega arith in
    let v = value_last hs r in
    let v' : value (hs ++ (r ∷ [])) ≡ number_from_digits 128 ds * 128 + r = omega arith in
    let q : value (hs ++ (r ∷ [])) / 128 ≡ number_from_digits 128 ds = ap (λ (m : ℕ). m / 128) v' ∙ div-mul-add (number_from_digits 128 ds) 128 r h in
    let m : value (hs ++ (r ∷ [])) % 128 ≡ r = ap (λ (m : ℕ). m % 128) v' ∙ mod-mul-add (number_from_digits 128 ds) 128 r h in
    let d = digits_of ds (under_groups hs) (leads hs ys u k n) in
    let t = tops_are hs u k in
    rw (q, m, d, t)

-- bytes that finish a number, taken apart
front-is : (bs : List ℕ) → tops bs < length bs → take (tops bs + 1) bs ≡ take (tops bs) bs ++ (get_or bs (tops bs) 0 ∷ [])
front-is bs h = take_more bs (tops bs) 0 h

apart : (bs : List ℕ) → tops bs < length bs → bs ≡ take (tops bs) bs ++ (get_or bs (tops bs) 0 ∷ drop (tops bs + 1) bs)
apart bs h = sym (take-append-drop (tops bs) bs) ∙ ap (λ (xs : List ℕ). take (tops bs) bs ++ xs) (drop_more bs (tops bs) 0 h)

code_in : Parse ℕ → ℕ
code_in (Ok x) = 0
code_in (Err f) = f.0

-- the two refusals differ
distinct : {X : Type 0} (place : ℕ) → ◌≡◌ {A = Parse ℕ} (Err (refused_at Misspelt place)) (Err (refused_at CutShort place)) → X
unfolding code_in
distinct place e = let z : ◌≡◌ {A = ℕ} 2 1 = ap code_in e in absurd (omega arith)

pub number_spells_back : NumberSpellsBack
number_spells_back place bs v rest u e =
    elim (outcome place bs) [
      | bad m n ↦ never (sym n ∙ e)
      | cut m f n ↦ never (sym n ∙ e)
      | done m f n ↦
          let w = well bs m in
          let t : tops bs < length bs = ltb-true (tops bs) (length bs) f in
          let p : ◌≡◌ {A = Parse ℕ} (Ok (value (first bs), drop (tops bs + 1) bs)) (Ok (v, rest)) = sym n ∙ e in
          let pair : ◌≡◌ {A = ℕ × List ℕ} (value (first bs), drop (tops bs + 1) bs) (v, rest) = cc in
          let ev : value (first bs) ≡ v = ap (λ (x : ℕ × List ℕ). x.0) pair in
          let er : drop (tops bs + 1) bs ≡ rest = ap (λ (x : ℕ × List ℕ). x.1) pair in
          let hs = take (tops bs) bs in
          let r = get_or bs (tops bs) 0 in
          let whole = apart bs t in
          let led : get_or (hs ++ (r ∷ drop (tops bs + 1) bs)) 0 0 ≡ 128 → ⊥ = λ z. w.led (ap (λ (xs : List ℕ). get_or xs 0 0) whole ∙ z) in
          let s = spelt-so hs r (r ∷ drop (tops bs + 1) bs) (tops_all bs) (All-take (λ b. b < 256) (tops bs) bs u) (tops-stop bs t) led in
          let spelt : spell v ≡ hs ++ (r ∷ []) = ap spell (sym ev ∙ ap value (front-is bs t)) ∙ s in
          (omega (arith, w.small f), whole ∙ (sym (append_assoc hs (r ∷ []) (drop (tops bs + 1) bs)) ∙ rw (spelt, er)))
    ]

cut_short_from : (place : ℕ) (bs : List ℕ) → number_read place bs ≡ Err (refused_at CutShort place) → IsCutShort bs
cut_short_from place bs e =
    elim (outcome place bs) [
      | bad m n ↦ distinct place (sym n ∙ e)
      | done m f n ↦ never (sym e ∙ n)
      | cut m f n ↦
          let w = well bs m in
          let l = ltb-false (tops bs) (length bs) f in
          let all = take_all (tops bs) bs l in
          record { unfinished = rw all at (tops_all bs); few = omega (arith, w.few, tops_le bs); first_byte = w.led }
    ]

cut_short_to : (place : ℕ) (bs : List ℕ) → IsCutShort bs → number_read place bs ≡ Err (refused_at CutShort place)
cut_short_to place bs c =
    let t : tops bs ≡ length bs = ap tops (sym (append-nil bs)) ∙ (tops-front bs [] c.unfinished ∙ omega arith) in
    let few = c.few in
    number_cut place bs c.first_byte (omega arith) (omega arith)

leading-is : (bs : List ℕ) → get_or bs 0 0 ≡ 128 → bs ≡ 128 ∷ drop 1 bs
leading-is [] e = absurd (omega arith)
leading-is (b ∷ bs) e = ap (λ (x : ℕ). x ∷ bs) e

misspelt_from : (place : ℕ) (bs : List ℕ) → number_read place bs ≡ Err (refused_at Misspelt place) → Misspelling bs
misspelt_from place bs e =
    elim (outcome place bs) [
      | done m f n ↦ never (sym e ∙ n)
      | cut m f n ↦ distinct place (sym e ∙ n)
      | bad m n ↦
          elim (or_cases (eqb (get_or bs 0 0) 128) _ m) [
            | inl a ↦ leading (drop 1 bs) (leading-is bs (eqb-true (get_or bs 0 0) 128 a))
            | inr b ↦ elim (or_cases (leb most_bytes (tops bs)) _ b) [
              | inl a ↦
                  let five = leb-true most_bytes (tops bs) a in
                  let all = tops_all bs in
                  let five-of = All-take Top most_bytes (take (tops bs) bs) all in
                  long (take most_bytes bs) (drop most_bytes bs) (sym (take-append-drop most_bytes bs)) (length-take-le most_bytes bs (omega (arith, tops_le bs))) (rw (take-take most_bytes (tops bs) bs five) at five-of)
              | inr a ↦
                  let both = and_parts (finished bs) _ a in
                  let t = ltb-true (tops bs) (length bs) both.0 in
                  let over = ltb-true number_limit (value (first bs)) both.1 in
                  large (take (tops bs) bs) (get_or bs (tops bs) 0) (drop (tops bs + 1) bs) (apart bs t) (tops_all bs) (tops-stop bs t) (rw (front-is bs t) at over)
            ]
          ]
    ]

misspelt_to : (place : ℕ) (bs : List ℕ) → Misspelling bs → number_read place bs ≡ Err (refused_at Misspelt place)
misspelt_to place bs (leading rest e) = number-leading place bs (ap (λ (xs : List ℕ). get_or xs 0 0) e)
misspelt_to place bs (long hs rest e l u) = number-long place bs (omega (arith, ap tops e, tops-front hs rest u))
misspelt_to place bs (large hs r rest e u h k) =
    let t = ap tops e ∙ tops_last hs r rest u h in
    let f : take (length hs + 1) bs ≡ hs ++ (r ∷ []) = ap (take (length hs + 1)) e ∙ take_last hs r rest in
    number-large place bs (length hs) t (omega (arith, ap length e, longer hs r rest)) (rw f k)

pub refusals : NumberRefusals
refusals place bs = ((cut_short_from place bs, cut_short_to place bs), (misspelt_from place bs, misspelt_to place bs))
