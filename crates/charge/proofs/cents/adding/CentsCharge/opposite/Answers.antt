use Rattle.std.proofs.Common.{ℕ, ◌-◌, ◌%◌, ap, ◌∙◌}
use native.Mathlib.Nat.{mod-mod}
use Rattle.charge.specs.Decimals.{value_of}
use Rattle.charge.specs.Ranges.{cents_end}
use Rattle.charge.specs.Residues.{below_eq}
use Rattle.charge.proofs.DigitSums.{value_in_octave}
use Rattle.charge.proofs.cents.adding.CentsCharge.opposite.Goals as goal

pub returns-clause-opposite : goal.returns-clause-opposite
returns-clause-opposite c =
    let v = cents_end - value_of c.args.self.digits % cents_end in
    below_eq _ _ (ap (λ (k : ℕ). k % cents_end) (value_in_octave v c.octave_opposite.result c.octave_opposite.ensures) ∙ mod-mod v cents_end)
