use Rattle.std.proofs.Common.{sym, ◌∙◌, arith}
use Rattle.automaton.proofs.Lookups.{pattern-at}
use Rattle.automaton.proofs.pattern.PatternDensityDensity.charge.Goals as goal

pub returns : goal.returns
returns g c =
    let t = c.args.self.now in
    let counted = t.words.counted in
    let within = t.within in
    c.charge_on.ensures ∙ sym (pattern-at g.C.Charge.kind t.words.q t.words.m t.pattern t.charge c.args.code (omega arith))
