use Rattle.std.proofs.Common.{◌≡◌, ◌-◌, ◌+◌, ◌++◌, length, drop, sym, ap, ◌∙◌, arith}
use Rattle.automaton.specs.Words.{word}
use Rattle.criterion.proofs.Prefixes.{write_none, write_more}
use Rattle.criterion.proofs.shown.write_word.Goals as goal

pub loop-i-init : goal.loop-i-init
loop-i-init c = write_none (word c.args.q (length c.args.letters.now) c.args.code) c.args.letters.now

pub loop-i-preserved : goal.loop-i-preserved
loop-i-preserved c =
    let before : c.loop-i.i - 1 + 1 ≡ c.loop-i.i = omega arith in
    write_more c.args.q (c.loop-i.i - 1) c.loop-i.rest c.loop-i.letters (omega arith)
    ∙ ap (λ n. word c.args.q n c.loop-i.rest ++ drop n c.loop-i.letters) before
    ∙ c.loop-i.invariant

pub returns : goal.returns
returns c =
    let done : c.loop-i.i ≡ 0 = omega arith in
    sym (ap (λ n. word c.args.q n c.loop-i.rest ++ drop n c.loop-i.letters) done) ∙ c.loop-i.invariant
