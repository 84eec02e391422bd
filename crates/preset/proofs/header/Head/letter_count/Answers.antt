use Rattle.std.proofs.Common.{arith}
use Rattle.preset.proofs.Heads.{letters_few}
use Rattle.preset.proofs.header.Head.letter_count.Goals as goal

pub pow-requires : goal.pow-requires
pow-requires c = omega (arith, letters_few c.args.self.header c.args.self.sized)

pub returns-clause-few : goal.returns-clause-few
returns-clause-few c = omega (arith, letters_few c.args.self.header c.args.self.sized)
