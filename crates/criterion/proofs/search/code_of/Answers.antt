use Rattle.std.proofs.Common.{refl}
use lib.Arith.{digits_lt, digits_div}
use Rattle.criterion.proofs.search.code_of.Goals as goal

pub returns : goal.returns
returns c = record { is = refl; below = digits_lt c.requires.within.0 c.requires.within.1; prefix = digits_div c.args.head c.requires.within.1 }
