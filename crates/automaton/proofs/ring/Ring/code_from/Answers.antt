use Rattle.std.proofs.Common.{◌≡◌, ◌+◌, ◌-◌, ◌%◌, get_or, length, ap, ◌∙◌, arith}
use Rattle.automaton.specs.Words.{code, window, cell}
use Rattle.automaton.proofs.Windows.{code_more, code_times}
use Rattle.automaton.proofs.ring.Ring.code_from.Goals as goal

pub overflow_mul-code : goal.overflow_mul-code
overflow_mul-code c =
    let r = c.args.self in
    omega (arith, code_times r.q r.cells.now c.args.start (c.loop-i.i - c.args.start) c.loop-i.code r.some r.letters r.few (omega arith) c.loop-i.invariant)

pub overflow_add-code : goal.overflow_add-code
overflow_add-code c =
    let r = c.args.self in
    omega (arith, code_times r.q r.cells.now c.args.start (c.loop-i.i - c.args.start) c.loop-i.code r.some r.letters r.few (omega arith) c.loop-i.invariant)

pub loop-i-preserved : goal.loop-i-preserved
loop-i-preserved c =
    let r = c.args.self in
    let at : c.loop-i.i ≡ c.args.start + (c.loop-i.i - c.args.start) = omega arith in
    let more : c.loop-i.i - c.args.start + 1 ≡ c.loop-i.i + 1 - c.args.start = omega arith in
    code_more r.q r.cells.now c.args.start (c.loop-i.i - c.args.start) c.loop-i.code _ c.loop-i.invariant (ap (λ k. get_or r.cells.now (k % length r.cells.now) 0) at)
    ∙ ap (λ j. code r.q (window j (cell r.cells.now) c.args.start)) more
