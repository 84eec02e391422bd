-- Rules and densities of any form mean what the one that they are means. Assumes nothing.
use Rattle.charge.specs.Groups.{Kind}
use Rattle.charge.specs.declared.Charge.{Ghosts as ChargeOf}
use Rattle.automaton.specs.Making.{by_code, by_sum}
use Rattle.automaton.specs.Meanings.{Local, Lawful, Weights, Weighed}
use Rattle.automaton.specs.Meant.{looked_up-lawful, table_rule_meant, sum_rule_meant, table_meant, table_meant-weighed, pattern_meant, pattern_meant-weighed}
use Rattle.judge_cases.specs.declared.rule.AnyRule.{AnyRule}
use Rattle.judge_cases.specs.declared.rule.AnyRule.TheVariants as rule
use Rattle.judge_cases.specs.declared.density.AnyDensity.{AnyDensity}
use Rattle.judge_cases.specs.declared.density.AnyDensity.TheVariants as density

abbrev pub rule_meaning : AnyRule → Local
rule_meaning (rule.Table t) = table_rule_meant t
rule_meaning (rule.Sum t) = sum_rule_meant t

pub rule_lawful : (r : AnyRule) → Lawful (rule_meaning r)
rule_lawful (rule.Table t) = looked_up-lawful by_code t.table
rule_lawful (rule.Sum t) = looked_up-lawful by_sum t.table

abbrev pub density_weights : {C : Type 0} {c : ChargeOf C} → (K : Kind C) → AnyDensity C c → Weights K.group.Carrier
density_weights K (density.Table t) = table_meant K t
density_weights K (density.Pattern t) = pattern_meant K t

pub density_lawful : {C : Type 0} {c : ChargeOf C} (K : Kind C) (d : AnyDensity C c) → Weighed (density_weights K d)
density_lawful K (density.Table t) = table_meant-weighed K t
density_lawful K (density.Pattern t) = pattern_meant-weighed K t
