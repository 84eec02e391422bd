use Rattle.bench.proofs.Coded.{rule-entry, rule-past}
use Rattle.bench.proofs.rule_label.RuleLabelLabel.label.Goals as goal

pub returns-in_default : goal.returns-in_default
returns-in_default g c =
    let t = c.args.self.now in
    rule-past g.C.Charge.kind.group t.sizes (g.R.Rule.meaning t.parts.now.rule) (g.D.Density.weights g.C.Charge.kind t.parts.now.density) c.args.code _
    c.in_default.ensures c.zero.ensures

pub returns : goal.returns
returns g c =
    let t = c.args.self.now in
    rule-entry g.C.Charge.kind.group t.sizes (g.R.Rule.meaning t.parts.now.rule) (g.D.Density.weights g.C.Charge.kind t.parts.now.density) c.args.code _ _ _ _ _
    c.in-Some.ensures.0 c.in-Some.ensures.1 c.code.ensures c.charge-later.ensures c.charge-now.ensures c.difference.ensures
