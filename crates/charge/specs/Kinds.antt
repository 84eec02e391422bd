-- What the charges of each delivered kind mean. Assumes nothing.
use Rattle.std.specs.Prelude.{ℕ, ◌%◌, ◌^◌, true, ◌&&◌, ℤ, pos, unsigned_abs}
use Rattle.std.proofs.Common.{lit<, pow_pos, of_z, to_z}
use Rattle.std.specs.Int.{int_rem_euclid, w64}
use Rattle.charge.specs.Groups.{Group, Kind}
use Rattle.charge.specs.Decimals.{value_of, cents_entry}
use Rattle.charge.specs.Ranges.{voices_range, pitch_end, channel_bits, cents_end}
use Rattle.charge.specs.Residues.{Below, same_below, decides_below, modular, residue, xors, pairs, same_pair, decides_pair}
use Rattle.charge.specs.declared.voices.Voices.{Voices}
use Rattle.charge.specs.declared.pitch.Pitch.{Pitch}
use Rattle.charge.specs.declared.channels.Channels.{Channels}
use Rattle.charge.specs.declared.both.Both.{Both}
use Rattle.charge.specs.declared.cents.Cents.{Cents}

-- whole numbers modulo 2^64
abbrev pub voice_group : Group
voice_group = modular (2 ^ 64) (lit< tt)

-- the residue of a whole number
abbrev pub voice_means : ℤ → Below (2 ^ 64)
voice_means z = residue (2 ^ 64) (lit< tt) (unsigned_abs (int_rem_euclid z (pos (2 ^ 64))))

-- the bits of a signed number of 64 bits, and the signed number that has the lowest 64 bits of a number
abbrev pub bits : ℤ → ℕ
bits z = of_z w64 z

abbrev pub wrapped : ℕ → ℤ
wrapped n = to_z w64 (n % 2 ^ 64)

-- a residue read as a signed number of 64 bits
abbrev pub signed : Below (2 ^ 64) → ℤ
signed x = to_z w64 x.value

abbrev pub voices : Kind Voices
voices = record {
  group = voice_group;
  means = λ v. voice_means v.count;
  same = same_below;
  decides = decides_below;
  entry = λ v. voices_range v.count;
}

-- the class of a pitch
abbrev pub class_of : Pitch → ℕ
class_of p = p.class

-- the residue of a class
abbrev pub pitch_means : ℕ → Below pitch_end
pitch_means n = residue pitch_end (lit< tt) n

abbrev pub pitch : Kind Pitch
pitch = record {
  group = modular pitch_end (lit< tt);
  means = λ p. pitch_means (class_of p);
  same = same_below;
  decides = decides_below;
  entry = λ _. true;
}

-- the low 16 bits of a number
abbrev pub channel_means : ℕ → Below (2 ^ channel_bits)
channel_means n = residue (2 ^ channel_bits) (pow_pos channel_bits) n

abbrev pub channels : Kind Channels
channels = record {
  group = xors channel_bits;
  means = λ v. channel_means v.bits;
  same = same_below;
  decides = decides_below;
  entry = λ _. true;
}

-- each part by itself
abbrev pub both : Kind Both
both = record {
  group = pairs voices.group pitch.group;
  means = λ b. (voices.means b.voices, pitch.means b.pitch);
  same = same_pair voices.same pitch.same;
  decides = decides_pair voices.same pitch.same voices.decides pitch.decides;
  entry = λ b. voices.entry b.voices && pitch.entry b.pitch;
}

-- the residue of the value of four digits
abbrev pub cents_means : ℕ → Below cents_end
cents_means digits = residue cents_end (lit< tt) (value_of digits)

abbrev pub cents : Kind Cents
cents = record {
  group = modular cents_end (lit< tt);
  means = λ c. cents_means c.digits;
  same = same_below;
  decides = decides_below;
  entry = λ c. cents_entry c.digits;
}
