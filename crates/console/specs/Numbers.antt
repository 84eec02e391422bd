-- Numbers as words. Assumes nothing.
use Rattle.std.specs.Prelude.{ℕ, ◌+◌, ◌-◌, ◌*◌, ◌^◌, cond, ◌&&◌, List, [], ◌∷◌, map, length, ℤ, pos, neg_ℤ, Some, None, Option, ◌==◌, nat_lt}
use Rattle.std.specs.Option.{option_map}
use Rattle.std.specs.Char.{is_ascii_digit}
use Rattle.std.specs.Int.Digits.{number_from_digits_after}
use Rattle.std.specs.Str.{all_ascii_digits}

-- what a number is below
abbrev pub number_end : ℕ
number_end = 2 ^ 63

-- the value of digits that come after others of a value
abbrev pub value_after : ℕ → List ℕ → ℕ
value_after n w = number_from_digits_after 10 n (map (λ b. b - 48) w)

-- digits alone, whose value is below the end
abbrev pub digits_after : ℕ → List ℕ → Option ℕ
digits_after n w = cond (all_ascii_digits w && nat_lt (value_after n w) number_end) (Some (value_after n w)) None

-- a value with one digit more
abbrev pub with_digit : ℕ → ℕ → Option ℕ
with_digit n b = cond (is_ascii_digit b && nat_lt (n * 10 + (b - 48)) number_end) (Some (n * 10 + (b - 48))) None

-- one digit or more
abbrev pub number : List ℕ → Option ℕ
number w = cond (length w == 0) None (digits_after 0 w)

-- a number, with a minus sign before it if it is below zero
abbrev pub signed_number : List ℕ → Option ℤ
signed_number [] = None
signed_number (b ∷ bs) = cond (b == 45) (option_map (λ v. neg_ℤ (pos v)) (number bs)) (option_map pos (number (b ∷ bs)))
