-- Four decimal digits by their values: what is added, taken away and brought into an octave. Assumes nothing.
use Rattle.std.proofs.Common.{◌≡◌, ℕ, zero, suc, ◌+◌, ◌-◌, ◌*◌, ◌/◌, ◌%◌, ◌<◌, ◌≤◌, Bool, true, false, cond, ◌&&◌, eqb, sym, refl, ap, ◌∙◌, subst, arith, inl, inr, lt-ltb, leb-true, le-leb, ltb-true, mod-lt, lit<}
use Rattle.std.specs.Prelude.{◌==◌, bit_and, bit_xor, nat_le, nat_lt}
use Rattle.std.proofs.lemmas.Bool.{and_parts, cases_Bool}
use Rattle.charge.specs.Decimals.{thousands, hundreds, tens, units, value_of, all_decimal, cents_entry, packed, four_digits}
use Rattle.charge.specs.Ranges.{cents_end}

-- whether two tests answer alike
alike : Bool → Bool → Bool
alike true b = b
alike false true = false
alike false false = true

alike-is : (a b : Bool) → alike a b ≡ true → a ≡ b
unfolding alike
alike-is true true e = refl
alike-is true false e = absurd (grind arith)
alike-is false true e = absurd (grind arith)
alike-is false false e = refl

-- a test passes for each number below an end
each-below : (ℕ → Bool) → ℕ → Bool
each-below f zero = true
each-below f (suc n) = f n && each-below f n

each-at : (f : ℕ → Bool) (n : ℕ) → each-below f n ≡ true → (d : ℕ) → d < n → f d ≡ true
unfolding each-below
each-at f zero e d h = absurd (omega (arith, h))
each-at f (suc n) e d h =
    let p = and_parts (f n) (each-below f n) e in
    elim (cases_Bool (eqb d n)) [
      | inl t ↦ let i : d ≡ n = grind (arith, t) in rw i p.0
      | inr t ↦ each-at f n p.1 d (grind (arith, t))
    ]

-- whether 0x666 more carries from one of the three lower digits into the next
carries_nowhere : ℕ → Bool
carries_nowhere d = bit_and (bit_xor (d + 1638) d) 4368 == 0

-- tried for each number below 0x1200
tried : each-below (λ d. alike (carries_nowhere d) (all_decimal d)) 4608 ≡ true
unfolding each-below alike carries_nowhere
tried = refl

pub decimal_by_carries : (d : ℕ) → d < 4608 → (bit_and (bit_xor (d + 1638) d) 4368 == 0) ≡ all_decimal d
unfolding carries_nowhere
decimal_by_carries d h = alike-is _ _ (each-at (λ d. alike (carries_nowhere d) (all_decimal d)) 4608 tried d h)

-- the digits of sixteen bits, packed again
abbrev packed_of : ℕ → ℕ
packed_of d = packed (thousands d) (hundreds d) (tens d) (units d)

-- Sixteen bits whose digits are decimal, by their digits.
pub record Four (d : ℕ) : Type 0 where
  pub is : d ≡ packed_of d
  pub thousands_most : thousands d ≤ 9
  pub hundreds_most : hundreds d ≤ 9
  pub tens_most : tens d ≤ 9
  pub units_most : units d ≤ 9

four : (d : ℕ) → d < 65536 → all_decimal d ≡ true → Four d
four d h e =
    let a = and_parts (nat_le (thousands d) 9 && nat_le (hundreds d) 9 && nat_le (tens d) 9) (nat_le (units d) 9) e in
    let b = and_parts (nat_le (thousands d) 9 && nat_le (hundreds d) 9) (nat_le (tens d) 9) a.0 in
    let c = and_parts (nat_le (thousands d) 9) (nat_le (hundreds d) 9) b.0 in
    record {
      is = omega (arith, h);
      thousands_most = leb-true (thousands d) 9 c.0;
      hundreds_most = leb-true (hundreds d) 9 c.1;
      tens_most = leb-true (tens d) 9 b.1;
      units_most = leb-true (units d) 9 a.1;
    }

-- digits are in the order of their values
pub entry_below : (d : ℕ) → d < 4608 → all_decimal d ≡ cents_entry d
entry_below d h =
    elim (cases_Bool (all_decimal d)) [
      | inl e ↦
          let f = four d (omega (arith, h)) e in
          let v : value_of d < 1200 = omega (arith, h, f.is, f.hundreds_most, f.tens_most, f.units_most) in
          rw (e, lt-ltb (value_of d) 1200 v)
      | inr e ↦ rw e
    ]

pub entry_above : (d : ℕ) → d < 65536 → 4608 ≤ d → false ≡ cents_entry d
entry_above d h k =
    elim (cases_Bool (all_decimal d)) [
      | inl e ↦
          let f = four d h e in
          let v : nat_lt (value_of d) 1200 ≡ false = grind (arith, k, f.is, f.hundreds_most, f.tens_most, f.units_most) in
          rw (e, v)
      | inr e ↦ rw e
    ]

-- Four digits that are packed are read back.
record Packed (a b c d : ℕ) : Type 0 where
  thousands_are : thousands (packed a b c d) ≡ a
  hundreds_are : hundreds (packed a b c d) ≡ b
  tens_are : tens (packed a b c d) ≡ c
  units_are : units (packed a b c d) ≡ d

module _ (a b c d : ℕ) (a_most : a ≤ 9) (b_most : b ≤ 9) (c_most : c ≤ 9) (d_most : d ≤ 9) where
  digits-spelt : four_digits (a * 1000 + b * 100 + c * 10 + d) ≡ packed a b c d
  digits-spelt =
      let p : (a * 1000 + b * 100 + c * 10 + d) / 1000 ≡ a = omega arith in
      let q : (a * 1000 + b * 100 + c * 10 + d) / 100 % 10 ≡ b = omega arith in
      let r : (a * 1000 + b * 100 + c * 10 + d) / 10 % 10 ≡ c = omega arith in
      let s : (a * 1000 + b * 100 + c * 10 + d) % 10 ≡ d = omega arith in
      rw (p, q, r, s)

  packed-read : Packed a b c d
  packed-read = record { thousands_are = omega arith; hundreds_are = omega arith; tens_are = omega arith; units_are = omega arith }

-- the digits of a number are decimal, and have its value
module _ (v : ℕ) (small : v < 10000) where
  parts-of : Packed (v / 1000) (v / 100 % 10) (v / 10 % 10) (v % 10)
  parts-of = packed-read (v / 1000) (v / 100 % 10) (v / 10 % 10) (v % 10) (omega arith) (omega arith) (omega arith) (omega arith)

  pub value_of-four_digits : value_of (four_digits v) ≡ v
  value_of-four_digits = let p = parts-of in rw (p.thousands_are, p.hundreds_are, p.tens_are, p.units_are) (omega arith)

  decimal-four_digits : all_decimal (four_digits v) ≡ true
  decimal-four_digits =
      let p = parts-of in
      rw (p.thousands_are, p.hundreds_are, p.tens_are, p.units_are, le-leb (v / 1000) 9 (omega arith), le-leb (v / 100 % 10) 9 (omega arith), le-leb (v / 10 % 10) 9 (omega arith), le-leb (v % 10) 9 (omega arith))

pub entry-four_digits : (v : ℕ) → v < cents_end → cents_entry (four_digits v) ≡ true
entry-four_digits v h = let k : v < 10000 = omega arith in rw (decimal-four_digits v k, value_of-four_digits v k, lt-ltb v 1200 h)

-- six in a digit in which x, from there down, is below y; n with the sixes of three digits, and without them
abbrev six : ℕ → ℕ → ℕ → ℕ → ℕ
six x y end s = cond (nat_lt (x % end) (y % end)) s 0

abbrev with_sixes : ℕ → ℕ → ℕ → ℕ
with_sixes n x y = n + six x y 16 6 + six x y 256 96 + six x y 4096 1536

abbrev without_sixes : ℕ → ℕ → ℕ → ℕ
without_sixes n x y = n - six x y 16 6 - six x y 256 96 - six x y 4096 1536

-- a six by a flag that is 1 where x is below y
flagged : (x y c s : ℕ) → c ≤ 1 → (c ≡ 0 → y ≤ x) → (c ≡ 1 → x < y) → cond (nat_lt x y) s 0 ≡ c * s
flagged x y zero s h f g = let e : nat_lt x y ≡ false = let k = f refl in grind arith in rw e (omega arith)
flagged x y (suc zero) s h f g = rw (lt-ltb x y (g refl)) (omega arith)
flagged x y (suc (suc c)) s h f g = absurd (omega (arith, h))

-- two numbers by their digits
module _ (a₃ a₂ a₁ a₀ b₃ b₂ b₁ b₀ : ℕ) (h₃ : a₃ ≤ 9) (h₂ : a₂ ≤ 9) (h₁ : a₁ ≤ 9) (h₀ : a₀ ≤ 9) (i₃ : b₃ ≤ 9) (i₂ : b₂ ≤ 9) (i₁ : b₁ ≤ 9) (i₀ : b₀ ≤ 9) where
  abbrev A : ℕ
  A = packed a₃ a₂ a₁ a₀

  abbrev B : ℕ
  B = packed b₃ b₂ b₁ b₀

  abbrev U : ℕ
  U = a₃ * 1000 + a₂ * 100 + a₁ * 10 + a₀

  abbrev V : ℕ
  V = b₃ * 1000 + b₂ * 100 + b₁ * 10 + b₀

  low₀ : B % 16 ≡ b₀
  low₀ = omega (arith, i₀)

  low₁ : B % 256 ≡ b₁ * 16 + b₀
  low₁ = omega (arith, i₀, i₁)

  low₂ : B % 4096 ≡ b₂ * 256 + b₁ * 16 + b₀
  low₂ = omega (arith, i₀, i₁, i₂)

  -- by what each digit carries
  sum-carried : a₃ ≤ 4 → b₃ ≤ 4 → (c₀ c₁ c₂ : ℕ) → c₀ ≡ (a₀ + b₀ + 6) / 16 → c₁ ≡ (a₁ + b₁ + c₀ + 6) / 16 → c₂ ≡ (a₂ + b₂ + c₁ + 6) / 16
      → with_sixes (A + B) (A + 1638 + B) B ≡ four_digits (U + V)
  sum-carried a₃_most b₃_most c₀ c₁ c₂ e₀ e₁ e₂ =
      let k₀ : c₀ ≤ 1 = omega (arith, e₀, h₀, i₀) in
      let k₁ : c₁ ≤ 1 = omega (arith, e₁, h₁, i₁, k₀) in
      let k₂ : c₂ ≤ 1 = omega (arith, e₂, h₂, i₂, k₁) in
      let l₀ : 16 * c₀ ≤ a₀ + b₀ + 6 = omega (arith, e₀) in
      let l₁ : 16 * c₁ ≤ a₁ + b₁ + c₀ + 6 = omega (arith, e₁) in
      let l₂ : 16 * c₂ ≤ a₂ + b₂ + c₁ + 6 = omega (arith, e₂) in
      let m₀ : a₀ + b₀ + 6 < 16 * c₀ + 16 = omega (arith, e₀) in
      let m₁ : a₁ + b₁ + c₀ + 6 < 16 * c₁ + 16 = omega (arith, e₁) in
      let m₂ : a₂ + b₂ + c₁ + 6 < 16 * c₂ + 16 = omega (arith, e₂) in
      let t₀ : (A + 1638 + B) % 16 + 16 * c₀ ≡ a₀ + b₀ + 6 = omega (arith, l₀, m₀) in
      let t₁ : (A + 1638 + B) % 256 + 256 * c₁ ≡ (a₁ * 16 + a₀) + 102 + (b₁ * 16 + b₀) = omega (arith, l₀, m₀, l₁, m₁) in
      let t₂ : (A + 1638 + B) % 4096 + 4096 * c₂ ≡ (a₂ * 256 + a₁ * 16 + a₀) + 1638 + (b₂ * 256 + b₁ * 16 + b₀) =
      omega (arith, l₀, m₀, l₁, m₁, l₂, m₂) in
      let f₀ = flagged ((A + 1638 + B) % 16) (B % 16) c₀ 6 k₀ (λ z. omega (arith, t₀, low₀, z)) (λ z. omega (arith, t₀, low₀, z, h₀)) in
      let f₁ = flagged ((A + 1638 + B) % 256) (B % 256) c₁ 96 k₁ (λ z. omega (arith, t₁, low₁, z)) (λ z. omega (arith, t₁, low₁, z, h₀, h₁)) in
      let f₂ = flagged ((A + 1638 + B) % 4096) (B % 4096) c₂ 1536 k₂ (λ z. omega (arith, t₂, low₂, z)) (λ z. omega (arith, t₂, low₂, z, h₀, h₁, h₂)) in
      let s = digits-spelt (a₃ + b₃ + c₂) (a₂ + b₂ + c₁ - 10 * c₂) (a₁ + b₁ + c₀ - 10 * c₁) (a₀ + b₀ - 10 * c₀) (omega (arith, k₂, a₃_most, b₃_most)) (omega (arith, l₂, m₂)) (omega (arith, l₁, m₁)) (omega (arith, l₀, m₀)) in
      let v : U + V ≡ (a₃ + b₃ + c₂) * 1000 + (a₂ + b₂ + c₁ - 10 * c₂) * 100 + (a₁ + b₁ + c₀ - 10 * c₁) * 10 + (a₀ + b₀ - 10 * c₀) = omega (arith, l₀, l₁, l₂) in
      rw (f₀, f₁, f₂, v, s) (omega (arith, l₀, l₁, l₂))

  -- by what each digit borrows, and what it leaves
  difference-borrowed : (c₀ c₁ c₂ r₀ r₁ r₂ r₃ : ℕ) → c₀ ≤ 1 → c₁ ≤ 1 → c₂ ≤ 1 → r₀ ≤ 9 → r₁ ≤ 9 → r₂ ≤ 9
      → r₀ + b₀ ≡ a₀ + 10 * c₀ → r₁ + b₁ + c₀ ≡ a₁ + 10 * c₁ → r₂ + b₂ + c₁ ≡ a₂ + 10 * c₂ → r₃ + b₃ + c₂ ≡ a₃
      → without_sixes (A - B) A B ≡ four_digits (U - V)
  difference-borrowed c₀ c₁ c₂ r₀ r₁ r₂ r₃ k₀ k₁ k₂ m₀ m₁ m₂ e₀ e₁ e₂ e₃ =
      let t₀ : A % 16 ≡ a₀ = omega (arith, h₀) in
      let t₁ : A % 256 ≡ a₁ * 16 + a₀ = omega (arith, h₀, h₁) in
      let t₂ : A % 4096 ≡ a₂ * 256 + a₁ * 16 + a₀ = omega (arith, h₀, h₁, h₂) in
      let f₀ = flagged (A % 16) (B % 16) c₀ 6 k₀ (λ z. omega (arith, t₀, low₀, z, e₀)) (λ z. omega (arith, t₀, low₀, z, e₀, m₀)) in
      let f₁ = flagged (A % 256) (B % 256) c₁ 96 k₁ (λ z. omega (arith, t₁, low₁, z, e₀, e₁, m₀)) (λ z. omega (arith, t₁, low₁, z, e₀, e₁, m₀, m₁)) in
      let f₂ = flagged (A % 4096) (B % 4096) c₂ 1536 k₂ (λ z. omega (arith, t₂, low₂, z, e₀, e₁, e₂, m₀, m₁)) (λ z. omega (arith, t₂, low₂, z, e₀, e₁, e₂, m₀, m₁, m₂)) in
      let s = digits-spelt r₃ r₂ r₁ r₀ (omega (arith, e₃, h₃)) m₂ m₁ m₀ in
      let d : A ≡ B + packed r₃ r₂ r₁ r₀ + c₀ * 6 + c₁ * 96 + c₂ * 1536 = omega (arith, e₀, e₁, e₂, e₃) in
      let v : U ≡ V + (r₃ * 1000 + r₂ * 100 + r₁ * 10 + r₀) = omega (arith, e₀, e₁, e₂, e₃) in
      rw (f₀, f₁, f₂, left_over U V (r₃ * 1000 + r₂ * 100 + r₁ * 10 + r₀) v, s) (taken_away A B (c₀ * 6) (c₁ * 96) (c₂ * 1536) _ d)
    where
      left_over : (u v r : ℕ) → u ≡ v + r → u - v ≡ r
      left_over u v r e = omega (arith, e)

      taken_away : (a b x y z r : ℕ) → a ≡ b + r + x + y + z → a - b - x - y - z ≡ r
      taken_away a b x y z r e = omega (arith, e)

-- What a digit borrows, and what it leaves.
record Borrowed (a b c : ℕ) : Type 0 where
  borrow : ℕ
  digit : ℕ
  borrow_most : borrow ≤ 1
  digit_most : digit ≤ 9
  so : digit + b + c ≡ a + 10 * borrow

borrowed : (a b c : ℕ) → a ≤ 9 → b ≤ 9 → c ≤ 1 → Borrowed a b c
borrowed a b c h i j =
    elim (cases_Bool (nat_lt a (b + c))) [
      | inl t ↦ let k = ltb-true a (b + c) t in record { borrow = 1; digit = a + 10 - (b + c); borrow_most = omega arith; digit_most = omega (arith, k); so = omega (arith, i, j) }
      | inr t ↦ let k : b + c ≤ a = grind (arith, t) in record { borrow = 0; digit = a - (b + c); borrow_most = omega arith; digit_most = omega (arith, h); so = omega (arith, k) }
    ]

module _ (a b : ℕ) (a_small : a < 65536) (b_small : b < 65536) (a_decimal : all_decimal a ≡ true) (b_decimal : all_decimal b ≡ true) where
  -- in the thousands nothing is borrowed
  pub difference_by_digits : value_of b ≤ value_of a → without_sixes (a - b) a b ≡ four_digits (value_of a - value_of b)
  difference_by_digits order =
      let f = four a a_small a_decimal in
      let g = four b b_small b_decimal in
      let x = borrowed (units a) (units b) 0 f.units_most g.units_most (omega arith) in
      let y = borrowed (tens a) (tens b) x.borrow f.tens_most g.tens_most x.borrow_most in
      let z = borrowed (hundreds a) (hundreds b) y.borrow f.hundreds_most g.hundreds_most y.borrow_most in
      let e = difference-borrowed (thousands a) (hundreds a) (tens a) (units a) (thousands b) (hundreds b) (tens b) (units b)
      f.thousands_most f.hundreds_most f.tens_most f.units_most g.thousands_most g.hundreds_most g.tens_most g.units_most
      x.borrow y.borrow z.borrow x.digit y.digit z.digit (thousands a - (thousands b + z.borrow)) x.borrow_most y.borrow_most z.borrow_most x.digit_most y.digit_most z.digit_most
      (omega (arith, x.so)) y.so z.so (omega (arith, top (thousands a) (hundreds a) (tens a) (units a) (thousands b) (hundreds b) (tens b) (units b) x.borrow y.borrow z.borrow x.digit y.digit z.digit order x.so y.so z.so x.digit_most y.digit_most z.digit_most)) in
      subst (λ (n : ℕ). without_sixes (n - b) n b ≡ four_digits (value_of a - value_of b)) (sym f.is)
      (subst (λ (n : ℕ). without_sixes (packed_of a - n) (packed_of a) n ≡ four_digits (value_of a - value_of b)) (sym g.is) e)
    where
      top : (a₃ a₂ a₁ a₀ b₃ b₂ b₁ b₀ c₀ c₁ c₂ r₀ r₁ r₂ : ℕ) → b₃ * 1000 + b₂ * 100 + b₁ * 10 + b₀ ≤ a₃ * 1000 + a₂ * 100 + a₁ * 10 + a₀
          → r₀ + b₀ + 0 ≡ a₀ + 10 * c₀ → r₁ + b₁ + c₀ ≡ a₁ + 10 * c₁ → r₂ + b₂ + c₁ ≡ a₂ + 10 * c₂ → r₀ ≤ 9 → r₁ ≤ 9 → r₂ ≤ 9 → b₃ + c₂ ≤ a₃
      top a₃ a₂ a₁ a₀ b₃ b₂ b₁ b₀ c₀ c₁ c₂ r₀ r₁ r₂ o e f g h i j = omega (arith, o, e, f, g, h, i, j)

-- digits that may be an entry are decimal, and have few thousands
entry_four : (d : ℕ) → d < 65536 → cents_entry d ≡ true → (all_decimal d ≡ true) × (thousands d ≤ 4)
entry_four d h e =
    let p = and_parts (all_decimal d) (nat_lt (value_of d) cents_end) e in
    let v = ltb-true (value_of d) cents_end p.1 in
    (p.0, omega (arith, v))

pub sum_by_digits : (a b : ℕ) → a < 65536 → b < 65536 → cents_entry a ≡ true → cents_entry b ≡ true
    → with_sixes (a + b) (a + 1638 + b) b ≡ four_digits (value_of a + value_of b)
sum_by_digits a b h i ea eb =
    let p = entry_four a h ea in
    let q = entry_four b i eb in
    let f = four a h p.0 in
    let g = four b i q.0 in
    let e = sum-carried (thousands a) (hundreds a) (tens a) (units a) (thousands b) (hundreds b) (tens b) (units b)
    f.thousands_most f.hundreds_most f.tens_most f.units_most g.thousands_most g.hundreds_most g.tens_most g.units_most
    p.1 q.1 _ _ _ refl refl refl in
    subst (λ (n : ℕ). with_sixes (n + b) (n + 1638 + b) b ≡ four_digits (value_of a + value_of b)) (sym f.is)
    (subst (λ (n : ℕ). with_sixes (packed_of a + n) (packed_of a + 1638 + n) n ≡ four_digits (value_of a + value_of b)) (sym g.is) e)

-- the value of the digits of a number that is brought into an octave
pub value_in_octave : (v d : ℕ) → d ≡ four_digits (v % cents_end) → value_of d ≡ v % cents_end
value_in_octave v d e =
    let h = mod-lt v (lit< {n = cents_end} tt) in
    ap value_of e ∙ value_of-four_digits (v % cents_end) (omega (arith, h))

-- a sum of digits that were brought into an octave first
pub sum_in_octave : (a b x y s r : ℕ) → x ≡ four_digits (value_of a % cents_end) → y ≡ four_digits (value_of b % cents_end) → s ≡ four_digits (value_of x + value_of y)
    → r ≡ four_digits (value_of s % cents_end) → r ≡ four_digits ((value_of a + value_of b) % cents_end)
sum_in_octave a b x y s r ex ey es er =
    let vx = value_in_octave (value_of a) x ex in
    let vy = value_in_octave (value_of b) y ey in
    let hx = mod-lt (value_of a) (lit< {n = cents_end} tt) in
    let hy = mod-lt (value_of b) (lit< {n = cents_end} tt) in
    let vs = ap value_of es ∙ value_of-four_digits (value_of x + value_of y) (omega (arith, vx, vy, hx, hy)) in
    er ∙ ap four_digits (added (value_of a) (value_of b) (value_of x) (value_of y) (value_of s) vx vy vs)
  where
    added : (u v x y s : ℕ) → x ≡ u % cents_end → y ≡ v % cents_end → s ≡ x + y → s % cents_end ≡ (u + v) % cents_end
    added u v x y s ex ey es = omega (arith, ex, ey, es)
