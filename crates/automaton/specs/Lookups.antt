-- Rules and densities that are looked up have an answer or a charge for each word. Assumes nothing.
use Rattle.std.proofs.Common.{sym, subst, suc-mul, zero-mul, mod-lt, arith}
use Rattle.std.specs.Prelude.{◌≡◌, ℕ, zero, suc, ◌+◌, ◌-◌, ◌*◌, ◌/◌, ◌%◌, ◌^◌, ◌<◌, ◌≤◌, cond, List, [], ◌∷◌, ◌++◌, map, length, ◌==◌, slice_index, slice_index_or}
use Rattle.std.proofs.Math.Decide.{dec_lt}
use Rattle.std.proofs.lemmas.List.{get_or_past}
use Rattle.charge.specs.Groups.{Kind}
use Rattle.automaton.specs.Words.{Letters, word, table}
use Rattle.automaton.specs.Tables.{length-table, get_or-table}
use Rattle.automaton.specs.Meanings.{DensityLimits, Lawful, Weighed}
use Rattle.automaton.specs.Making.{letter_sum, sum_count, table_density, pattern_density}

-- a letter of a strip, or 0 past its end, is below q
pub letter_below : (q : ℕ) (xs : List ℕ) → 0 < q → Letters q xs → (i : ℕ) → slice_index xs i < q
letter_below q xs some below i =
    elim (dec_lt i (length xs)) [
      | yes h ↦ below i h
      | no h ↦ subst (λ (a : ℕ). a < q) (sym (get_or_past xs i 0 (omega arith))) some
    ]

pub lookup-lawful : (q n l : ℕ) (xs : List ℕ) (place : ℕ → ℕ) → DensityLimits q n → l < n → Letters q xs →
    Lawful (record { q = q; n = n; l = l; answers = table (q ^ n) (λ c. slice_index xs (place c)) })
lookup-lawful q n l xs place sizes reach below = record {
  sizes = (sizes.0, sizes.1, sizes.2, sizes.3, reach);
  each = length-table (q ^ n) (λ c. slice_index xs (place c));
  letters = λ i h.
      let within : i < q ^ n = omega (arith, length-table (q ^ n) (λ c. slice_index xs (place c))) in
      subst (λ (a : ℕ). a < q) (sym (get_or-table (q ^ n) (λ c. slice_index xs (place c)) 0 i within)) (letter_below q xs (omega (arith, sizes.0)) below (place i));
}

pub table_weighed : {C : Type 0} (K : Kind C) (q k : ℕ) (entries : List C) → DensityLimits q k → Weighed (table_density K q k entries)
table_weighed K q k entries sizes = record { sizes = sizes; each = length-table (q ^ k) (λ c. slice_index_or (map K.means entries) c K.group.zero) }

pub pattern_weighed : {C : Type 0} (K : Kind C) (q k pattern : ℕ) (charge : C) → DensityLimits q k → Weighed (pattern_density K q k pattern charge)
pattern_weighed K q k pattern charge sizes =
    record { sizes = sizes; each = length-table (q ^ k) (λ c. cond (c == pattern) (K.means charge) K.group.zero) }

-- the sum of a word's letters has its place in the table of sums
pub letter_sum_push : (w : List ℕ) (a : ℕ) → letter_sum (w ++ (a ∷ [])) ≡ letter_sum w + a
letter_sum_push [] a = omega arith
letter_sum_push (b ∷ w) a = omega (arith, letter_sum_push w a)

letter_sum_bound : (q n c : ℕ) → 1 ≤ q → letter_sum (word q n c) ≤ n * (q - 1)
letter_sum_bound q zero c some = omega (arith, zero-mul (q - 1))
letter_sum_bound q (suc n) c some =
    omega (arith, letter_sum_push (word q n (c / q)) (c % q), letter_sum_bound q n (c / q) some, mod-lt c {m = q} some, suc-mul n (q - 1))

pub sum_within : (q n c : ℕ) → 1 ≤ q → letter_sum (word q n c) < sum_count q n
sum_within q n c some = omega (arith, letter_sum_bound q n c some)
