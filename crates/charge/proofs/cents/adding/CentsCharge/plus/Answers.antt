use Rattle.std.proofs.Common.{◌+◌, lit<}
use Rattle.charge.specs.Decimals.{value_of}
use Rattle.charge.specs.Ranges.{cents_end}
use Rattle.charge.proofs.DigitSums.{value_in_octave}
use Rattle.charge.proofs.Wraps.{sum-means}
use Rattle.charge.proofs.cents.adding.CentsCharge.plus.Goals as goal

pub returns-clause-sum : goal.returns-clause-sum
returns-clause-sum c =
    let a = value_of c.args.self.digits in
    let b = value_of c.args.other.digits in
    sum-means cents_end (lit< tt) a b (value_of c.octave_sum.result) (value_in_octave (a + b) c.octave_sum.result c.octave_sum.ensures)
