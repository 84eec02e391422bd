-- The digits of cents below an octave are sent as that number. Assumes nothing.
use Rattle.std.proofs.Common.{◌≡◌, ℕ, ◌%◌, ◌<◌, ap, ◌∙◌, mod-eq_of_lt, arith}
use Rattle.charge.proofs.DigitSums.{value_of-four_digits}
use Rattle.charge.specs.Decimals.{four_digits}
use Rattle.charge.specs.Ranges.{cents_end}
use Rattle.preset.specs.Sending.{cents_sent}

pub sent_digits : (v : ℕ) → v < cents_end → cents_sent (record { digits = four_digits v }) ≡ v
sent_digits v h = ap (λ (x : ℕ). x % cents_end) (value_of-four_digits v (omega arith)) ∙ mod-eq_of_lt h
