use Rattle.std.proofs.Common.{sym, arith}
use Rattle.fault.proofs.Powers.{power_bound, words-past}
use Rattle.fault.proofs.limits.word_count.Goals as goal

pub returns-then-m-gt-MOST_WINDOW : goal.returns-then-m-gt-MOST_WINDOW
returns-then-m-gt-MOST_WINDOW c = sym (words-past c.args.q c.args.m (omega arith) (omega arith))

pub pow-count-requires : goal.pow-count-requires
pow-count-requires c = omega (arith, power_bound c.args.q c.args.m (omega arith) (omega arith))
