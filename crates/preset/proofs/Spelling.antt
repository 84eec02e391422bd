-- One byte more of a spelling. Assumes nothing.
use Rattle.std.proofs.Common.{◌≡◌, ℕ, zero, suc, max, ◌+◌, ◌*◌, ◌/◌, ◌%◌, ◌^◌, ◌<◌, ◌≤◌, [], ◌∷◌, ◌++◌, map, length, refl, ap, ◌∙◌, arith, pow-add}
use Rattle.std.proofs.lemmas.List.{length-map, map_push, length_push}
use Rattle.std.proofs.lemmas.Int.Digits.{digits_of_step, length-digits_of_step, length-digits_of-le}
use Rattle.std.proofs.lemmas.Nat.{pow_pos}
use Rattle.std.proofs.Math.Pow.{pow_mono}
use Rattle.std.specs.Int.Digits.{digits_of}
use Rattle.preset.specs.Numbers.{spell, high_bytes}
use Rattle.preset.proofs.Reading.{roof_more}

pub high_step : (n : ℕ) → 0 < n → high_bytes n ≡ high_bytes (n / 128) ++ ((128 + n % 128) ∷ [])
high_step n h = ap (map (λ d. 128 + d)) (digits_of_step 128 n (omega arith) h) ∙ map_push (λ d. 128 + d) (digits_of 128 (n / 128)) (n % 128)

pub length_high_step : (n : ℕ) → 0 < n → length (high_bytes n) ≡ length (high_bytes (n / 128)) + 1
length_high_step n h = ap length (high_step n h) ∙ length_push (high_bytes (n / 128)) (128 + n % 128)

pub length-spell : (v : ℕ) → length (spell v) ≡ length (high_bytes (v / 128)) + 1
length-spell v = length_push (high_bytes (v / 128)) (v % 128)

-- powers of 128 are powers of 2
seven : (k : ℕ) → 128 ^ k ≡ 2 ^ (7 * k)
seven zero = refl
seven (suc k) =
    let e : suc k ≡ k + 1 = omega arith in
    let a = ap (λ (n : ℕ). 128 ^ n) e ∙ pow-add 128 k 1 in
    let b = ap (λ (n : ℕ). 2 ^ (7 * n)) e ∙ roof_more k in
    omega (arith, seven k)

digits_least : (k v : ℕ) → 128 ^ k ≤ v → k < length (digits_of 128 v)
digits_least zero v h = omega (arith, length-digits_of_step 128 v (omega arith) (omega arith))
digits_least (suc k) v h =
    let e : suc k ≡ k + 1 = omega arith in
    let a = ap (λ (n : ℕ). 128 ^ n) e ∙ pow-add 128 k 1 in
    let some : 0 < 128 ^ k = omega (arith, seven k, pow_pos (7 * k)) in
    omega (arith, digits_least k (v / 128) (omega arith), length-digits_of_step 128 v (omega arith) (omega arith))

-- as many bytes as there are sevens in the number of bits
pub length-spell_bits : (v m r : ℕ) → m ≡ max v 1 → 2 ^ r ≤ m → m < 2 * 2 ^ r → r / 7 + 1 ≡ length (spell v)
length-spell_bits zero m r e low high = let z = none r (omega arith) in rw z
  where
    none : (k : ℕ) → 2 ^ k ≤ 1 → k ≡ 0
    none zero h = refl
    none (suc k) h = absurd (omega (arith, pow_mono {i = 1} {j = suc k} (omega arith)))
length-spell_bits (suc u) m r e low high =
    let v = suc u in
    let k = r / 7 in
    let bytes = length-spell v in
    let step = length-digits_of_step 128 v (omega arith) (omega arith) in
    let groups = length-map (digits_of 128 (v / 128)) (λ d. 128 + d) in
    let least = digits_least k v (omega (arith, seven k, pow_mono {i = 7 * k} {j = r} (omega arith))) in
    let most = length-digits_of-le 128 (k + 1) v (omega arith) (omega (arith, seven (k + 1), pow-add 2 r 1, pow_mono {i = r + 1} {j = 7 * (k + 1)} (omega arith))) in
    omega arith
