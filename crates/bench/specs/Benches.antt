-- A bench by what it means, and what follows from it. Assumes nothing.
use Rattle.std.specs.Prelude.{ℕ, ◌+◌, ◌-◌, List, length, slice_index_or}
use Rattle.charge.specs.Groups.{Kind}
use Rattle.automaton.specs.Words.{code, window, cell, before}
use Rattle.automaton.specs.Meanings.{Local, Weights, next, total}
use Rattle.criterion.specs.Labelled.{LabelList}
use Rattle.criterion.specs.Search.{padding, crossings}
use Rattle.bench.specs.Labels.{rule_label_list}

-- a rule, and a density whose charges are of one kind
pub record Bench {C : Type 0} (K : Kind C) : Type 0 where
  pub rule : Local
  pub density : Weights K.group.Carrier

abbrev pub bench_of : {C : Type 0} → (K : Kind C) → Local → Weights K.group.Carrier → Bench K
bench_of K r d = record { rule = r; density = d }

module _ {C : Type 0} {K : Kind C} (b : Bench K) where
  -- the total of a ring before one step and after it
  abbrev pub total_before : List ℕ → K.group.Carrier
  total_before c = total K.group b.density c

  abbrev pub total_after : List ℕ → K.group.Carrier
  total_after c = total K.group b.density (next b.rule c)

  -- the label of the rule under the density, and its crossings
  abbrev pub label_of : LabelList K.group.Carrier
  label_of = rule_label_list K.group b.rule b.density

  abbrev pub crossings_of : List K.group.Carrier
  crossings_of = crossings K padding label_of

  -- what crosses into site i of a ring of letters below q in a step: the crossing of the m - 1 cells from l cells
  -- before cell i on, by their code
  abbrev pub crossing_into : ℕ → List ℕ → ℕ → K.group.Carrier
  crossing_into q c i =
      slice_index_or crossings_of (code q (window (b.rule.n + b.density.k - 2) (cell c) (before (length c) b.rule.l i))) K.group.zero
