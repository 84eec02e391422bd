-- Digits read one after another. Assumes nothing.
use Rattle.std.proofs.Common.{◌≡◌, ℕ, ◌+◌, ◌-◌, ◌*◌, ◌<◌, ◌≤◌, true, false, ◌&&◌, eqb, ltb, List, [], ◌∷◌, map, length, get_or, take, drop, pos, ◌-ℤ◌, neg_ℤ, Some, None, refl, ap, ◌∙◌, ⊎_elim, arith, w64, to_z, of_z}
use Rattle.std.proofs.lemmas.Int.Digits.{number_after_ge}
use Rattle.std.proofs.lemmas.Bool.{lt-ltb, le-ltb, ltb-true, ltb-false, and_parts, and_cases, and_right, eq-eqb, ne_eqb}
use Rattle.std.proofs.lemmas.Slice.{first_rest}
use Rattle.std.proofs.lemmas.Int.{ints}
use Rattle.std.specs.Option.{option_map}
use Rattle.std.specs.Char.{is_ascii_digit}
use Rattle.std.specs.Str.{all_ascii_digits}
use Rattle.console.specs.Numbers.{number_end, value_after, digits_after, with_digit, number, signed_number}

module _ (n b : ℕ) (w : List ℕ) where
  pub digit_more : (v : ℕ) → Some v ≡ with_digit n b → (digits_after n (b ∷ w) ≡ digits_after v w) × (v < number_end)
  digit_more v e =
      let both : (is_ascii_digit b && ltb (n * 10 + (b - 48)) number_end) ≡ true = grind arith in
      let parts = and_parts (is_ascii_digit b) (ltb (n * 10 + (b - 48)) number_end) both in
      let is : v ≡ n * 10 + (b - 48) = grind arith in
      (rw (parts.0, is), rw is (ltb-true (n * 10 + (b - 48)) number_end parts.1))

  pub digit_stops : None ≡ with_digit n b → digits_after n (b ∷ w) ≡ None
  digit_stops e =
      let none : (is_ascii_digit b && ltb (n * 10 + (b - 48)) number_end) ≡ false = grind arith in
      ⊎_elim (λ h. rw h) (λ h. let k = le-ltb (value_after (n * 10 + (b - 48)) w) number_end (omega (arith, number_after_ge 10 (n * 10 + (b - 48)) (map (λ c. c - 48) w) (omega arith), ltb-false (n * 10 + (b - 48)) number_end h)) in rw (and_right (all_ascii_digits (b ∷ w)) (ltb (value_after n (b ∷ w)) number_end) k)) (and_cases (is_ascii_digit b) (ltb (n * 10 + (b - 48)) number_end) none)

pub digits_end : (n : ℕ) → n < number_end → digits_after n [] ≡ Some n
digits_end n h = rw (lt-ltb n number_end h)

pub number-some : (w : List ℕ) → eqb (length w) 0 ≡ false → number w ≡ digits_after 0 w
number-some w e = rw e

-- with a minus sign, and without
pub signed-minus : (w : List ℕ) → 1 ≤ length w → get_or w 0 0 ≡ 45 → signed_number w ≡ option_map (λ v. neg_ℤ (pos v)) (number (take (length w - 1) (drop 1 w)))
signed-minus w h e = ap signed_number (first_rest w 0 h) ∙ rw (eq-eqb (get_or w 0 0) 45 e)

pub signed_plain : (w : List ℕ) → (get_or w 0 0 ≡ 45 → ⊥) → signed_number w ≡ option_map pos (number w)
signed_plain [] h = refl
signed_plain (b ∷ bs) h = rw (ne_eqb b 45 h)

pub negated : (v : ℕ) → v < number_end → to_z w64 (of_z w64 (pos 0 -ℤ to_z w64 v)) ≡ neg_ℤ (pos v)
negated v h = omega (arith, ints)
