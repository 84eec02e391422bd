use Rattle.std.proofs.Common.{◌/◌, ◌%◌, arith}
use Rattle.preset.specs.Numbers.{high_bytes}
use Rattle.preset.proofs.Spelling.{length-spell}
use Rattle.preset.proofs.Fronts.{front_more}
use Rattle.preset.proofs.number.put_number.Goals as goal

pub put_high-last-requires : goal.put_high-last-requires
put_high-last-requires c = omega (arith, length-spell c.args.value)

pub bounds-out-last : goal.bounds-out-last
bounds-out-last c = omega (arith, length-spell c.args.value)

pub overflow_add-result : goal.overflow_add-result
overflow_add-result c = omega (arith, length-spell c.args.value)

pub returns : goal.returns
returns c =
    let l = length-spell c.args.value in
    let o = front_more c.args.out.now (high_bytes (c.args.value / 128)) (c.args.value % 128) (omega arith) in
    let e = c.put_high-last.ensures.count in
    let s = c.put_high-last.ensures.strip in
    record { count = omega arith; strip = cc }
