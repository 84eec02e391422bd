-- What the rules and densities of this crate mean, by what they keep. Assumes nothing.
use Rattle.std.specs.Prelude.{◌≡◌, ℕ, List}
use Rattle.charge.specs.Groups.{Kind}
use Rattle.charge.specs.Kinds.{voices}
use Rattle.charge.specs.declared.Charge.{Ghosts as ChargeOf}
use Rattle.charge.specs.declared.voices.Voices.{Voices}
use Rattle.automaton.specs.declared.lookup.LookupTable.{LookupTable}
use Rattle.automaton.specs.declared.table_rule.TableRule.{TableRule}
use Rattle.automaton.specs.declared.sum_rule.SumRule.{SumRule}
use Rattle.automaton.specs.declared.table_density.TableDensity.{TableDensity}
use Rattle.automaton.specs.declared.pattern.PatternDensity.{PatternDensity}
use Rattle.automaton.specs.declared.ring.Ring.{Ring}
use Rattle.automaton.specs.Meanings.{Local, Lawful, Weights, Weighed}
use Rattle.automaton.specs.Ranges.{InRange}
use Rattle.automaton.specs.Making.{lookup_rule, by_code, by_sum, table_density, pattern_density}
use Rattle.automaton.specs.Lookups.{lookup-lawful, table_weighed, pattern_weighed}

-- the rule that looks its answers up in a table by their places
abbrev pub looked_up : (ℕ → ℕ → ℕ → ℕ) → LookupTable → Local
looked_up place t = lookup_rule place t.words.q t.words.m t.l t.letters.now

pub looked_up-lawful : (place : ℕ → ℕ → ℕ → ℕ) (t : LookupTable) → Lawful (looked_up place t)
looked_up-lawful place t = lookup-lawful t.words.q t.words.m t.l t.letters.now (place t.words.q t.words.m) t.words.sizes t.reach t.below

abbrev pub table_rule_meant : TableRule → Local
table_rule_meant t = looked_up by_code t.table

abbrev pub sum_rule_meant : SumRule → Local
sum_rule_meant t = looked_up by_sum t.table

module _ {C : Type 0} {c : ChargeOf C} (K : Kind C) where
  abbrev pub table_meant : TableDensity C c → Weights K.group.Carrier
  table_meant t = table_density K t.words.q t.words.m t.entries.now

  pub table_meant-weighed : (t : TableDensity C c) → Weighed (table_meant t)
  table_meant-weighed t = table_weighed K t.words.q t.words.m t.entries.now t.words.sizes

  abbrev pub pattern_meant : PatternDensity C c → Weights K.group.Carrier
  pattern_meant t = pattern_density K t.words.q t.words.m t.pattern t.charge

  pub pattern_meant-weighed : (t : PatternDensity C c) → Weighed (pattern_meant t)
  pattern_meant-weighed t = pattern_weighed K t.words.q t.words.m t.pattern t.charge t.words.sizes

-- the kind of charge of a density that is made in voices
abbrev in_voices : ChargeOf Voices
in_voices = record { kind = voices }

-- the charges of a table and of a pattern that are made in voices are in the range of an entry
abbrev pub TablesInRange : Type 0
TablesInRange = (t : TableDensity Voices in_voices) → InRange (table_meant voices t)

abbrev pub PatternsInRange : Type 0
PatternsInRange = (t : PatternDensity Voices in_voices) → InRange (pattern_meant voices t)

-- a ring is of these cells; its type says that they are letters below q
abbrev pub RingOf : ℕ → List ℕ → Ring → Type 0
RingOf q cells r = (r.q ≡ q) × (r.cells.now ≡ cells)
