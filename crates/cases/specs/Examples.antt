-- The rules, the densities and the meanings that the worked examples are about. Assumes nothing.
use Rattle.std.specs.Prelude.{ℕ, ◌/◌, ◌%◌, ◌^◌, List, [], ◌∷◌, map, replicate, pos, Ok, Result}
use Rattle.std.proofs.Common.{lit<}
use Rattle.fault.specs.Refusals.{Refusal}
use Rattle.charge.specs.Groups.{Group, minus}
use Rattle.charge.specs.Kinds.{voices, pitch, channels, cents, pitch_means, channel_means}
use Rattle.charge.specs.declared.kind.ChargeKind.TheVariants.{Voices, Cents}
use Rattle.charge.specs.Ranges.{pitch_end, channel_bits, cents_end}
use Rattle.charge.specs.Residues.{Below, residue}
use Rattle.automaton.specs.Making.{table_rule, pattern_density}
use Rattle.automaton.specs.Meanings.{Local, Weights, next, total}
use Rattle.automaton.specs.Words.{code, table}
use Rattle.bench.specs.Benches.{Bench, bench_of}
use Rattle.bench.specs.Verdicts.{Judgement, breaks}
use Rattle.preset.specs.declared.entry.Entry.{Entry}
use Rattle.preset.specs.declared.header.Header.{Header}
use Rattle.preset.specs.Presets.{Preset}

-- what numbers of voices, pitch classes, sets of channels and cents mean
abbrev pub Count : Type 0
Count = Below (2 ^ 64)

abbrev pub count : ℕ → Count
count n = residue (2 ^ 64) (lit< tt) n

abbrev pub class : ℕ → Below pitch_end
class n = pitch_means n

abbrev pub channel_set : ℕ → Below (2 ^ channel_bits)
channel_set n = channel_means n

abbrev pub cent : ℕ → Below cents_end
cent n = residue cents_end (lit< tt) n

-- such meanings as numbers
abbrev pub residues : {n : ℕ} → List (Below n) → List ℕ
residues xs = map (λ x. x.value) xs

-- An elementary rule has two letters and a window of three cells, of which one stands before the cell itself. Bit c of
-- its number, from the lowest, answers the word with code c.
abbrev pub elementary : ℕ → Local
elementary number = table_rule 2 3 1 (table 8 (λ c. number / 2 ^ c % 2))

-- every answer is 1
abbrev pub ones : Local
ones = table_rule 2 2 0 (replicate 4 1)

-- each letter becomes the other
abbrev pub flip : Local
flip = table_rule 2 1 0 (1 ∷ 0 ∷ [])

-- one letter of two weighs nothing, and the other this
abbrev pub weighing : {A : Type 0} → A → A → Weights A
weighing zero one = record { q = 2; k = 1; charges = zero ∷ one ∷ [] }

-- letter a weighs a voices
abbrev pub letter_count : Weights Count
letter_count = weighing (count 0) (count 1)

-- benches that are judged: a rule under the density that counts letters, rule 150 in channels where the letter 1 weighs
-- channel set 1, and every answer 1 in pitch where the letter 1 weighs 4, and in cents where it weighs 400
abbrev pub counting : Local → Bench voices
counting rule = bench_of voices rule letter_count

abbrev pub bench_150 : Bench channels
bench_150 = bench_of channels (elementary 150) (weighing (channel_set 0) (channel_set 1))

abbrev pub bench_of_ones : Bench pitch
bench_of_ones = bench_of pitch ones (weighing (class 0) (class 4))

abbrev pub ones_in_cents : Bench cents
ones_in_cents = bench_of cents ones (weighing (cent 0) (cent 400))

-- what a ring gains in a step: its total afterwards less its total before
abbrev pub gain : (G : Group) → Local → Weights G.Carrier → List ℕ → G.Carrier
gain G r d c = minus G (total G d (next r c)) (total G d c)

-- the break of a bench
abbrev pub broken_at : {A : Type 0} → ℕ → ℕ → A → A → Result (Judgement A) Refusal
broken_at word len first second = Ok (breaks (record { word = word; len = len; first = first; second = second }))

-- a word of two letters of two, which is worth one voice where it stands
abbrev pub one_voice_on : List ℕ → Weights Count
one_voice_on word = pattern_density voices 2 2 (code 2 word) (record { count = pos 1 })

-- the two patterns that are compared
abbrev pub pattern_10 : Weights Count
pattern_10 = one_voice_on (1 ∷ 0 ∷ [])

abbrev pub pattern_01 : Weights Count
pattern_01 = one_voice_on (0 ∷ 1 ∷ [])

-- the bytes of rule 184 in voices, and the preset that they are
abbrev pub bytes_184 : List ℕ
bytes_184 = 0 ∷ 2 ∷ 3 ∷ 1 ∷ 1 ∷ 0 ∷ 0 ∷ 0 ∷ 1 ∷ 1 ∷ 1 ∷ 0 ∷ 1 ∷ 0 ∷ 2 ∷ []

abbrev pub preset_184 : Preset
preset_184 = record {
  head = record { kind = Voices; header = record { kind = 0; q = 2; n = 3; l = 1; k = 1 } };
  letters = 0 ∷ 0 ∷ 0 ∷ 1 ∷ 1 ∷ 1 ∷ 0 ∷ 1 ∷ [];
  entries = record { signed = pos 0; plain = 0 } ∷ record { signed = pos 1; plain = 0 } ∷ [];
}

-- The parts of a preset in cents, where the letter 1 weighs so many; its bytes, where these are those of that number;
-- and the preset.
abbrev pub header_in_cents : Header
header_in_cents = record { kind = 4; q = 2; n = 1; l = 0; k = 1 }

abbrev pub entries_in_cents : ℕ → List Entry
entries_in_cents one = record { signed = pos 0; plain = 0 } ∷ record { signed = pos 0; plain = one } ∷ []

abbrev pub bytes_in_cents : List ℕ → List ℕ
bytes_in_cents number = 4 ∷ 2 ∷ 1 ∷ 0 ∷ 1 ∷ 0 ∷ 1 ∷ 0 ∷ number

abbrev pub preset_in_cents : ℕ → Preset
preset_in_cents one = record {
  head = record { kind = Cents; header = header_in_cents };
  letters = 0 ∷ 1 ∷ [];
  entries = entries_in_cents one;
}
