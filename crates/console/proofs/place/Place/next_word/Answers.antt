use Rattle.std.proofs.Common.{ℕ, ◌+◌, drop, sym, ap, ◌∙◌, arith}
use Rattle.console.specs.Cutting.{next_word}
use Rattle.console.proofs.Passing.{past-newline, past-blank, at-word, at_end}
use Rattle.console.proofs.place.Place.next_word.Goals as goal
use Rattle.console.proofs.place.Place.next_word.Goals.{then-byte-eq10, else-byte-eq10+else-not-is_blank}

pub overflow_add-passed : goal.overflow_add-passed
overflow_add-passed c = omega (arith, c.loop-i.invariant.1)

pub loop-i-preserved : goal.loop-i-preserved
loop-i-preserved c =
    let bs = c.args.self.text.now in
    let i = c.loop-i.i in
    let n = c.loop-i.passed in
    let h = c.loop-i-test.true in
    let inv = c.loop-i.invariant in
    elim c.if-byte-eq10.branch [
      | then-byte-eq10 w ↦ (inv.0 ∙ (past-newline n bs i h w.if-byte-eq10.true ∙ ap (λ (m : ℕ). next_word m (drop (i + 1) bs)) (sym w.passed-is)), omega (arith, inv.1, w.passed-is))
      | else-byte-eq10+else-not-is_blank w ↦ (inv.0 ∙ (past-blank n bs i h w.if-byte-eq10.false (sym w.if-not-is_blank.ensures) ∙ ap (λ (m : ℕ). next_word m (drop (i + 1) bs)) (sym w.passed-is)), omega (arith, inv.1, w.passed-is))
    ]

pub returns-then-not-is_blank : goal.returns-then-not-is_blank
returns-then-not-is_blank c =
    sym (c.loop-i.invariant.0 ∙ at-word c.loop-i.passed c.args.self.text.now c.loop-i.i c.loop-i-test.true c.if-byte-eq10.false (sym c.if-not-is_blank.ensures))

pub returns : goal.returns
returns c = sym (c.loop-i.invariant.0 ∙ at_end c.loop-i.passed c.args.self.text.now c.loop-i.i c.loop-i-test.false)
