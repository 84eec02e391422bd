-- What the labels of this crate mean, by the sizes that they keep. Assumes nothing.
use Rattle.std.specs.Prelude.{ℕ, ◌+◌, ◌-◌, List, refl}
use Rattle.charge.specs.Groups.{Kind}
use Rattle.automaton.specs.declared.rule.Rule.{Ghosts as RuleOf}
use Rattle.automaton.specs.declared.density.Density.{Ghosts as DensityOf}
use Rattle.automaton.specs.Meanings.{Local, Weights}
use Rattle.criterion.specs.Labelled.{LabelList, Labelled}
use Rattle.bench.specs.declared.rule_label.RuleLabel.{RuleLabel}
use Rattle.bench.specs.declared.two_label.TwoLabel.{TwoLabel}
use Rattle.bench.specs.Labels.{rule_label, rule_label_list, two_label, listed}
use Rattle.bench.specs.KeptSizes.{sized_rule, sized_density, first_sized, second_sized, words-labelled}

-- a rule under a density
module _ {C R D : Type 0} {r : RuleOf R} (d : DensityOf D C) (K : Kind C) (t : RuleLabel R D r) where
  abbrev label_rule : Local
  label_rule = sized_rule t.sizes (r.meaning t.parts.now.rule)

  abbrev label_density : Weights K.group.Carrier
  label_density = sized_density t.sizes (d.weights K t.parts.now.density)

  abbrev pub rule_label_meant : LabelList K.group.Carrier
  rule_label_meant = rule_label_list K.group label_rule label_density

  pub rule_label-labelled : Labelled rule_label_meant
  rule_label-labelled = words-labelled t.sizes.words (t.sizes.n + t.sizes.k - 1) t.sizes.whole (rule_label K.group label_rule label_density)

-- two densities
module _ {C D E : Type 0} (d : DensityOf D C) (e : DensityOf E C) (K : Kind C) (t : TwoLabel D E) where
  abbrev label_on : List ℕ → K.group.Carrier
  label_on = two_label K.group (first_sized t.sizes (d.weights K t.first.now)) (second_sized t.sizes (e.weights K t.second.now))

  abbrev pub two_label_meant : LabelList K.group.Carrier
  two_label_meant = listed t.sizes.words.q t.sizes.words.m label_on

  pub two_label-labelled : Labelled two_label_meant
  two_label-labelled = words-labelled t.sizes.words t.sizes.words.m refl label_on
