use Rattle.std.proofs.Common.{arith}
use Rattle.std.proofs.lemmas.List.Sums.{prefix_len-le-length}
use Rattle.console.specs.Cutting.{belongs}
use Rattle.console.proofs.cutting.cut.Goals as goal

pub split_at-requires : goal.split_at-requires
split_at-requires c = omega (arith, c.leading_len.ensures, prefix_len-le-length (belongs c.args.class) c.args.text.now)
