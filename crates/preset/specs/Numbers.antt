-- How a number is spelt and read: groups of seven bits, the highest first, each but the last in a byte with
-- its top bit set. Assumes nothing.
use Rattle.std.specs.Prelude.{◌≡◌, ◌↔◌, ℕ, suc, ◌+◌, ◌/◌, ◌%◌, ◌<◌, ◌≤◌, Bool, cond, ◌&&◌, ◌||◌, List, [], ◌∷◌, ◌++◌, map, length, take, drop, Ok, Err, ◌==◌, nat_le, nat_lt, slice_index, slice_index_or}
use Rattle.std.specs.Int.Digits.{digits_of, number_from_digits}
use Rattle.std.specs.List.{AllByRecursion}
use Rattle.fault.specs.declared.Stop.TheVariants.{CutShort, Misspelt}
use Rattle.fault.specs.Refusals.{refused_at}
use Rattle.preset.specs.Answers.{Parse}

-- the largest number
abbrev pub number_limit : ℕ
number_limit = 4294967295

-- a number takes at most this many bytes
abbrev pub most_bytes : ℕ
most_bytes = 5

-- the groups of a number, none for leading zeros, each with its top bit set
abbrev pub high_bytes : ℕ → List ℕ
high_bytes v = map (λ d. 128 + d) (digits_of 128 v)

-- the bytes of a number
abbrev pub spell : ℕ → List ℕ
spell v = high_bytes (v / 128) ++ (v % 128 ∷ [])

-- how many bytes at the front have their top bit set
abbrev pub tops : List ℕ → ℕ
tops [] = 0
tops (b ∷ bs) = cond (nat_lt b 128) 0 (suc (tops bs))

-- the value of the groups that some bytes hold
abbrev pub value : List ℕ → ℕ
value bs = number_from_digits 128 (map (λ b. b % 128) bs)

-- a byte with its top bit clear ends the number
abbrev pub finished : List ℕ → Bool
finished bs = nat_lt (tops bs) (length bs)

-- the bytes of the number that stands first
abbrev pub first : List ℕ → List ℕ
first bs = take (tops bs + 1) bs

-- the first byte is 80 hexadecimal, the fifth has its top bit set, or the finished value is over the limit
abbrev pub misspelt : List ℕ → Bool
misspelt bs = slice_index bs 0 == 128 || (nat_le most_bytes (tops bs) || (finished bs && nat_lt number_limit (value (first bs))))

-- the number at the front of bs, which stands at a place of the input
abbrev pub number_read : ℕ → List ℕ → Parse ℕ
number_read place bs =
    cond (misspelt bs)
    (Err (refused_at Misspelt place))
    (cond (finished bs) (Ok (value (first bs), drop (tops bs + 1) bs)) (Err (refused_at CutShort place)))

-- Bytes that are cut short: each has its top bit set, there are at most four, and the first is not 80
-- hexadecimal.
pub record IsCutShort (bs : List ℕ) : Type 0 where
  pub unfinished : AllByRecursion (λ b. 128 ≤ b) bs
  pub few : length bs < most_bytes
  pub first_byte : slice_index_or bs 0 0 ≡ 128 → ⊥

-- Bytes that begin with a misspelt number.
pub data Misspelling (bs : List ℕ) : Type 0 where
  -- the first byte is 80 hexadecimal
  leading : (rest : List ℕ) → bs ≡ 128 ∷ rest → Misspelling bs
  -- five bytes have their top bit set
  long : (front rest : List ℕ) → bs ≡ front ++ rest → length front ≡ most_bytes → AllByRecursion (λ b. 128 ≤ b) front → Misspelling bs
  -- the finished value is over the limit
  large : (front : List ℕ) (last : ℕ) (rest : List ℕ) → bs ≡ front ++ (last ∷ rest) → AllByRecursion (λ b. 128 ≤ b) front → last < 128 → number_limit < value (front ++ (last ∷ [])) → Misspelling bs

-- which bytes are refused as a number, and how
abbrev pub NumberRefusals : Type 0
NumberRefusals =
    (place : ℕ) (bs : List ℕ)
    → ((number_read place bs ≡ Err (refused_at CutShort place)) ↔ IsCutShort bs)
    × ((number_read place bs ≡ Err (refused_at Misspelt place)) ↔ Misspelling bs)

-- what is spelt is read, and the bytes after it are handed on
abbrev pub NumberReadsBack : Type 0
NumberReadsBack = (place v : ℕ) (rest : List ℕ) → v ≤ number_limit → number_read place (spell v ++ rest) ≡ Ok (v, rest)

-- what is read was spelt so
abbrev pub NumberSpellsBack : Type 0
NumberSpellsBack =
    (place : ℕ) (bs : List ℕ) (v : ℕ) (rest : List ℕ)
    → AllByRecursion (λ b. b < 256) bs → number_read place bs ≡ Ok (v, rest) → (v ≤ number_limit) × (bs ≡ spell v ++ rest)
