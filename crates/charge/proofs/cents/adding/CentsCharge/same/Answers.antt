use Rattle.std.proofs.Common.{ap}
use Rattle.charge.specs.Residues.{below_eq}
use Rattle.charge.proofs.cents.adding.CentsCharge.same.Goals as goal

pub returns : goal.returns
returns c = (λ t. below_eq _ _ (c.equal_values.ensures.0 t), λ e. c.equal_values.ensures.1 (ap (λ x. x.value) e))
