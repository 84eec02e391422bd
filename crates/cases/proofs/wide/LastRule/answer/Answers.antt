use Rattle.std.proofs.Common.{◌%◌, ◌^◌, sym, arith}
use Rattle.automaton.proofs.Rings.{get_or-table, table-past}
use Rattle.cases.proofs.wide.LastRule.answer.Goals as goal

pub returns-then-code-self : goal.returns-then-code-self
returns-then-code-self c =
    let t = c.args.self.now in
    let counted = t.counted in
    sym (get_or-table (t.q ^ t.m) (λ i. i % t.q) 0 c.args.code (omega arith))

pub returns-else-code-self : goal.returns-else-code-self
returns-else-code-self c =
    let t = c.args.self.now in
    let counted = t.counted in
    sym (table-past (t.q ^ t.m) (λ i. i % t.q) 0 c.args.code (omega arith))
