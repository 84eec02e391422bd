-- Four decimal digits in sixteen bits, four bits each. Assumes nothing.
use Rattle.std.specs.Prelude.{ℕ, ◌+◌, ◌-◌, ◌*◌, ◌/◌, ◌%◌, Bool, ◌&&◌, nat_le, nat_lt}
use Rattle.charge.specs.Ranges.{cents_end}

-- the digits, of which the thousands are the highest four bits
abbrev pub thousands : ℕ → ℕ
thousands digits = digits / 4096 % 16

abbrev pub hundreds : ℕ → ℕ
hundreds digits = digits / 256 % 16

abbrev pub tens : ℕ → ℕ
tens digits = digits / 16 % 16

abbrev pub units : ℕ → ℕ
units digits = digits % 16

-- the number that the digits stand for: each times its power of ten, a digit above 9 too
abbrev pub value_of : ℕ → ℕ
value_of digits = thousands digits * 1000 + hundreds digits * 100 + tens digits * 10 + units digits

-- each digit is at most 9
abbrev pub all_decimal : ℕ → Bool
all_decimal digits =
    nat_le (thousands digits) 9 && nat_le (hundreds digits) 9 && nat_le (tens digits) 9 && nat_le (units digits) 9

-- digits that may be an entry: decimal, and of a value below an octave
abbrev pub cents_entry : ℕ → Bool
cents_entry digits = all_decimal digits && nat_lt (value_of digits) cents_end

-- four digits of four bits each, the thousands first
abbrev pub packed : ℕ → ℕ → ℕ → ℕ → ℕ
packed a b c d = a * 4096 + b * 256 + c * 16 + d

-- the four decimal digits of a number below 10,000
abbrev pub four_digits : ℕ → ℕ
four_digits number = packed (number / 1000) (number / 100 % 10) (number / 10 % 10) (number % 10)

-- the digits of a sum and of an opposite, modulo 1,200
abbrev pub cents_sum : ℕ → ℕ → ℕ
cents_sum a b = four_digits ((value_of a + value_of b) % cents_end)

abbrev pub cents_opposite : ℕ → ℕ
cents_opposite digits = four_digits ((cents_end - value_of digits % cents_end) % cents_end)
