use Rattle.std.proofs.Common.{ℕ, take, sym, ap, ap₂, ◌∙◌, arith}
use Rattle.fault.specs.declared.Stop.TheVariants.{BadLetter}
use Rattle.automaton.specs.Words.{code}
use Rattle.automaton.specs.Making.{pattern_density}
use Rattle.automaton.proofs.Codes.{code_lt}
use Rattle.automaton.proofs.Passes.{taken-letters, taken-front}
use Rattle.automaton.proofs.Windows.{window-whole}
use Rattle.automaton.proofs.pattern.PatternDensity.fill.Goals as goal

pub invariant_of-ring : goal.invariant_of-ring
invariant_of-ring g c =
    let w = c.in_ok-words.words in
    let sizes = w.sizes in
    let t = taken-letters w.q w.m c.args.word.now _ (sym c.in_ok-letters.ensures) in
    record { few = sizes.1; some = omega (arith, sizes.2, t.0); most = omega (arith, sizes.3, t.0); letters = t.1 }

pub invariant_of-self-clause-within : goal.invariant_of-self-clause-within
invariant_of-self-clause-within g c =
    let w = c.in_ok-words.words in
    let counted = w.counted in
    let t = taken-letters w.q w.m c.args.word.now _ (sym c.in_ok-letters.ensures) in
    let e = c.code_from-pattern.ensures ∙ ap (code w.q) (window-whole w.m _ t.0) in
    omega (arith, e, code_lt w.q w.m _ t, counted)

pub returns-clause-density : goal.returns-clause-density
returns-clause-density g c =
    let w = c.in_ok-words.words in
    let made = c.in_ok-words.ensures in
    let K = g.C.Charge.kind in
    let e = sym c.in_ok-letters.ensures in
    let t = taken-letters w.q w.m c.args.word.now _ e in
    ap (λ (pattern : ℕ). pattern_density K w.q w.m pattern c.args.charge)
    (c.code_from-pattern.ensures ∙ ap (code w.q) (window-whole w.m _ t.0 ∙ (taken-front _ BadLetter _ c.args.word.now _ e).1))
    ∙ ap₂ (λ (q k : ℕ). pattern_density K q k (code q (take k c.args.word.now)) c.args.charge) made.1 made.2
