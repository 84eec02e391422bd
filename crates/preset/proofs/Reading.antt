-- How a number is read from its first byte on. Assumes nothing.
use Rattle.std.proofs.Common.{◌≡◌, ℕ, suc, ◌+◌, ◌-◌, ◌*◌, ◌%◌, ◌^◌, ◌<◌, ◌≤◌, List, map, length, get_or, take, drop, Ok, Err, sym, ap, ◌∙◌, arith, length-drop, pow-add, le-ltb, lt-ltb}
use Rattle.std.proofs.lemmas.Int.Digits.{number_push}
use Rattle.std.proofs.lemmas.List.{map_more, at_drop_more, take_rest, drop-drop, get_or-drop, nil_from_length}
use Rattle.std.proofs.lemmas.Bool.Decides.{nat_tests}
use Rattle.std.specs.Int.Digits.{number_from_digits}
use Rattle.fault.specs.declared.Stop.TheVariants.{CutShort, Misspelt}
use Rattle.fault.specs.Refusals.{refused_at}
use Rattle.preset.specs.Answers.{Parse}
use Rattle.preset.specs.Numbers.{number_limit, most_bytes, tops, value, number_read}

-- one group more
pub value_more : (bs : List ℕ) (i : ℕ) → i < length bs → value (take (i + 1) bs) ≡ value (take i bs) * 128 + get_or bs i 0 % 128
value_more bs i h = ap (number_from_digits 128) (map_more (λ b. b % 128) bs i 0 h) ∙ number_push 128 (map (λ b. b % 128) (take i bs)) (get_or bs i 0 % 128)

-- one group more is seven bits more
pub roof_more : (i : ℕ) → 2 ^ (7 * (i + 1)) ≡ 128 * 2 ^ (7 * i)
roof_more i = let e : 7 * (i + 1) ≡ 7 + 7 * i = omega arith in ap (λ (n : ℕ). 2 ^ n) e ∙ pow-add 2 7 (7 * i)

-- the byte at i ends the number, or does not
pub tops_end : (bs : List ℕ) (i : ℕ) → i < length bs → get_or bs i 0 < 128 → tops (drop i bs) ≡ 0
tops_end bs i h k = at_drop_more tops bs i 0 h ∙ rw (lt-ltb (get_or bs i 0) 128 k)

pub tops_more : (bs : List ℕ) (i : ℕ) → i < length bs → 128 ≤ get_or bs i 0 → tops (drop i bs) ≡ suc (tops (drop (i + 1) bs))
tops_more bs i h k = at_drop_more tops bs i 0 h ∙ rw (le-ltb (get_or bs i 0) 128 k)

-- a slice that begins at i, taken apart into its first byte and the rest
module _ (bs rest : List ℕ) (i : ℕ) (at : rest ≡ drop i bs) (some : 1 ≤ length rest) where
  pub byte-within : i < length bs
  byte-within = omega (arith, ap length at, length-drop i bs)

  pub byte-is : get_or rest 0 0 ≡ get_or bs i 0
  byte-is = ap (λ (xs : List ℕ). get_or xs 0 0) at ∙ (get_or-drop i bs 0 0 ∙ ap (λ (n : ℕ). get_or bs n 0) (omega arith))

  pub tail-is : take (length rest - 1) (drop 1 rest) ≡ drop (i + 1) bs
  tail-is = take_rest rest 1 ∙ (ap (drop 1) at ∙ drop-drop 1 i bs)

  pub tail_shorter : length (take (length rest - 1) (drop 1 rest)) < length bs
  tail_shorter = omega (arith, ap length tail-is, length-drop (i + 1) bs, byte-within)

-- what a number is, by the bytes that have their top bit set
module _ (place : ℕ) (bs : List ℕ) where
  pub number-leading : get_or bs 0 0 ≡ 128 → number_read place bs ≡ Err (refused_at Misspelt place)
  number-leading h = grind (arith, nat_tests)

  pub number-long : most_bytes ≤ tops bs → number_read place bs ≡ Err (refused_at Misspelt place)
  number-long h = grind (arith, nat_tests)

  pub number-large : (i : ℕ) → tops bs ≡ i → i < length bs → number_limit < value (take (i + 1) bs) → number_read place bs ≡ Err (refused_at Misspelt place)
  number-large i e h k = let k' = rw (sym e) at k in grind (arith, nat_tests)

  module _ (led : get_or bs 0 0 ≡ 128 → ⊥) (few : tops bs < most_bytes) where
    pub number_cut : length bs ≤ tops bs → number_read place bs ≡ Err (refused_at CutShort place)
    number_cut h = grind (arith, nat_tests)

    pub number_is : (i : ℕ) → tops bs ≡ i → i < length bs → value (take (i + 1) bs) ≤ number_limit → number_read place bs ≡ Ok (value (take (i + 1) bs), drop (i + 1) bs)
    number_is i e h k =
        let k' = rw (sym e) at k in
        let is : number_read place bs ≡ Ok (value (take (tops bs + 1) bs), drop (tops bs + 1) bs) = grind (arith, nat_tests) in
        is ∙ ap (λ (n : ℕ). Ok (value (take (n + 1) bs), drop (n + 1) bs)) e

-- A turn of the reader: the bytes before i have their top bit set, and their groups have the value `high`.
module _ (bs rest : List ℕ) (i high : ℕ) (at : rest ≡ drop i bs) (top : tops bs ≡ i + tops rest) (sum : high ≡ value (take i bs)) where
  pub turn-cut : (place : ℕ) → (get_or bs 0 0 ≡ 128 → ⊥) → i < most_bytes → length rest < 1 → ◌≡◌ {A = Parse ℕ} (Err (refused_at CutShort place)) (number_read place bs)
  turn-cut place led few none =
      let empty = nil_from_length rest (omega arith) in
      sym (number_cut place bs led (omega (arith, ap tops empty)) (omega (arith, ap length empty, ap length at, length-drop i bs)))

  module _ (some : 1 ≤ length rest) where
    turn-value : high * 128 + get_or rest 0 0 % 128 ≡ value (take (i + 1) bs)
    turn-value = rw (byte-is bs rest i at some, sum) (sym (value_more bs i (byte-within bs rest i at some)))

    pub turn_more : high < 2 ^ (7 * i) → 128 ≤ get_or rest 0 0
        → (take (length rest - 1) (drop 1 rest) ≡ drop (i + 1) bs)
        × (i + 1 ≤ length bs)
        × (tops bs ≡ (i + 1) + tops (take (length rest - 1) (drop 1 rest)))
        × (high * 128 + get_or rest 0 0 % 128 ≡ value (take (i + 1) bs))
        × (high * 128 + get_or rest 0 0 % 128 < 2 ^ (7 * (i + 1)))
    turn_more roof h =
        let tail = tail-is bs rest i at some in
        let within = byte-within bs rest i at some in
        let more = tops_more bs i within (omega (arith, byte-is bs rest i at some)) in
        (tail, omega arith, omega (arith, ap tops at, ap tops tail), turn-value, omega (arith, roof_more i))

    ended : get_or rest 0 0 < 128 → tops bs ≡ i
    ended h = omega (arith, ap tops at, tops_end bs i (byte-within bs rest i at some) (omega (arith, byte-is bs rest i at some)))

    pub turn-large : (place : ℕ) → get_or rest 0 0 < 128 → number_limit < high * 128 + get_or rest 0 0 % 128 → ◌≡◌ {A = Parse ℕ} (Err (refused_at Misspelt place)) (number_read place bs)
    turn-large place h k = sym (number-large place bs i (ended h) (byte-within bs rest i at some) (omega (arith, turn-value)))

    pub turn_last : (place : ℕ) → (get_or bs 0 0 ≡ 128 → ⊥) → i < most_bytes → get_or rest 0 0 < 128 → high * 128 + get_or rest 0 0 % 128 ≤ number_limit
        → ◌≡◌ {A = Parse ℕ} (Ok (high * 128 + get_or rest 0 0 % 128, take (length rest - 1) (drop 1 rest))) (number_read place bs)
    turn_last place led few h k =
        let e = ended h in
        let within = byte-within bs rest i at some in
        let is = number_is place bs led (omega arith) i e within (omega (arith, turn-value)) in
        rw (turn-value, tail-is bs rest i at some) (sym is)
