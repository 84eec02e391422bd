use Rattle.std.proofs.Common.{◌≡◌, ◌+◌, ◌-◌, ◌*◌, ◌≤◌}
use Rattle.automaton.specs.Making.{letter_sum}
use Rattle.automaton.specs.Words.{word}
use Rattle.automaton.proofs.sum_rule.sum_of.Given as goal

abbrev pub invariant-loop : goal.invariant-loop
invariant-loop l = (l.sum ≤ 8 * l.counter) × (letter_sum (word l.words.q (l.words.m - l.counter) l.front) + l.sum ≡ letter_sum (word l.words.q l.words.m l.code))
