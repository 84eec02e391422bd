use Rattle.std.proofs.Common.{◌≡◌, ◌+◌, ◌/◌, ◌%◌, [], length, sym, ap, arith}
use Rattle.fault.specs.Answers.{at_front}
use Rattle.preset.specs.Numbers.{high_bytes}
use Rattle.preset.proofs.Spelling.{high_step, length_high_step}
use Rattle.preset.proofs.Fronts.{front_more}
use Rattle.preset.proofs.number.+put_high.Goals as goal

pub returns-then-high-eq0 : goal.returns-then-high-eq0
returns-then-high-eq0 t c =
    let e : high_bytes c.args.high ≡ [] = ap high_bytes c.if-high-eq0.true in
    record { count = omega (arith, ap length e); strip = ap (λ bs. at_front bs c.args.out.now) (sym e) }

pub put_high-last-requires : goal.put_high-last-requires
put_high-last-requires t c =
    let e = length_high_step c.args.high (omega arith) in
    (omega arith, omega arith)

pub bounds-out-last : goal.bounds-out-last
bounds-out-last t c = omega (arith, length_high_step c.args.high (omega arith))

pub overflow_add-result : goal.overflow_add-result
overflow_add-result t c = omega (arith, length_high_step c.args.high (omega arith))

pub returns : goal.returns
returns t c =
    let e = length_high_step c.args.high (omega arith) in
    let s = high_step c.args.high (omega arith) in
    let o = front_more c.args.out.now (high_bytes (c.args.high / 128)) (128 + c.args.high % 128) (omega arith) in
    record { count = omega arith; strip = cc }
