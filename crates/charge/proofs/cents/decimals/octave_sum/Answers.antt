use Rattle.charge.proofs.DigitSums.{sum_in_octave}
use Rattle.charge.proofs.cents.decimals.octave_sum.Goals as goal

pub returns : goal.returns
returns c =
    sum_in_octave c.args.a c.args.b c.reduced.result c.reduced-2.result c.digits_sum.result c.less_octave.result c.reduced.ensures c.reduced-2.ensures c.digits_sum.ensures c.less_octave.ensures
