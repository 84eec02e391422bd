use Rattle.std.proofs.Common.{ap₂, ◌∙◌, arith}
use Rattle.automaton.specs.Lookups.{sum_within}
use Rattle.automaton.specs.Making.{sum_rule, by_sum}
use Rattle.automaton.proofs.sum_rule.SumRule.fill.Goals as goal

pub returns-clause-rule : goal.returns-clause-rule
returns-clause-rule c =
    let w = c.in_ok-words.words in
    let made = c.in_ok-words.ensures in
    let sizes = w.sizes in
    c.in_ok-self.ensures.rule by_sum (λ x h. omega (arith, sum_within w.q w.m x (omega (arith, sizes.0)), c.sums.ensures))
    ∙ ap₂ (λ q n. sum_rule q n c.args.l c.args.letters.now) made.1 made.2
