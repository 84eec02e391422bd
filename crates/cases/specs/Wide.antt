-- A rule and a density of any size that ask for no table: the last letter of a word, by its code. Assumes nothing.
use Rattle.std.proofs.Common.{sym, subst, mod-lt, arith}
use Rattle.std.specs.Prelude.{ℕ, ◌%◌, ◌^◌, ◌<◌}
use Rattle.charge.specs.Groups.{Kind}
use Rattle.charge.specs.declared.channels.Channels.{Channels}
use Rattle.automaton.specs.Words.{table}
use Rattle.automaton.specs.Tables.{length-table, get_or-table}
use Rattle.automaton.specs.Meanings.{Local, Lawful, Weights, Weighed, DensityLimits}

-- the rule that answers with the last letter of its window
abbrev pub last_letter : ℕ → ℕ → Local
last_letter q n = record { q = q; n = n; l = 0; answers = table (q ^ n) (λ c. c % q) }

pub last_letter-lawful : (q n : ℕ) → DensityLimits q n → Lawful (last_letter q n)
last_letter-lawful q n sizes = record {
  sizes = (sizes.0, sizes.1, sizes.2, sizes.3, omega (arith, sizes.2));
  each = length-table (q ^ n) (λ c. c % q);
  letters = λ i h.
      let within : i < q ^ n = omega (arith, length-table (q ^ n) (λ c. c % q)) in
      subst (λ (a : ℕ). a < q) (sym (get_or-table (q ^ n) (λ c. c % q) 0 i within)) (mod-lt i (omega (arith, sizes.0)));
}

-- the density that weighs a word by its last letter
abbrev pub last_weight : (K : Kind Channels) → ℕ → ℕ → Weights K.group.Carrier
last_weight K q k = record { q = q; k = k; charges = table (q ^ k) (λ c. K.means (record { bits = c % q })) }

pub last_weighed : (K : Kind Channels) (q k : ℕ) → DensityLimits q k → Weighed (last_weight K q k)
last_weighed K q k sizes = record { sizes = sizes; each = length-table (q ^ k) (λ c. K.means (record { bits = c % q })) }
