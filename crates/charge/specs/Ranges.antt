-- Which charges may be entries of a density. Assumes nothing.
use Rattle.std.specs.Prelude.{ℕ, ◌^◌, Bool, ℤ, pos, negsuc, nat_lt}

-- a voices entry is -2^31 to 2^31 - 1; `negsuc n` is -(n + 1)
abbrev pub voices_end : ℕ
voices_end = 2 ^ 31

abbrev pub voices_range : ℤ → Bool
voices_range (pos n) = nat_lt n voices_end
voices_range (negsuc n) = nat_lt n voices_end

-- a pitch class is 0 to 11
abbrev pub pitch_end : ℕ
pitch_end = 12

-- a number of cents is 0 to 1,199
abbrev pub cents_end : ℕ
cents_end = 1200

-- a set of channels is 16 bits
abbrev pub channel_bits : ℕ
channel_bits = 16
