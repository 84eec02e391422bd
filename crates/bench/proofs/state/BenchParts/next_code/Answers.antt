use Rattle.std.proofs.Common.{◌≤◌, ◌*◌, arith, mul-le-mul_left, mul-le-mul_right}
use Rattle.fault.proofs.Powers.{power_bound}
use Rattle.bench.specs.KeptSizes.{sized_rule}
use Rattle.bench.proofs.Nexts.{tail_none, tail_more, tail_all}
use Rattle.bench.proofs.state.BenchParts.next_code.Goals as goal

pub overflow_mul-next : goal.overflow_mul-next
overflow_mul-next g c =
    let s = c.args.sizes in
    let up = power_bound s.words.q c.loop.counter s.words.sizes.1 (omega (arith, s.whole, s.reach, s.words.sizes.3)) in
    let most : c.last_letter.result * c.loop.place ≤ 255 * c.loop.place = mul-le-mul_right c.loop.place (omega arith) in
    omega (arith, up, most, c.loop.invariant.1)

pub overflow_add-next : goal.overflow_add-next
overflow_add-next g c =
    let s = c.args.sizes in
    let up = power_bound s.words.q c.loop.counter s.words.sizes.1 (omega (arith, s.whole, s.reach, s.words.sizes.3)) in
    let most : c.last_letter.result * c.loop.place ≤ 255 * c.loop.place = mul-le-mul_right c.loop.place (omega arith) in
    omega (arith, up, most, c.loop.invariant.1, c.loop.invariant.2)

pub overflow_mul-place : goal.overflow_mul-place
overflow_mul-place g c =
    let s = c.args.sizes in
    let up = power_bound s.words.q c.loop.counter s.words.sizes.1 (omega (arith, s.whole, s.reach, s.words.sizes.3)) in
    let most : c.loop.place * s.words.q ≤ c.loop.place * 8 = mul-le-mul_left c.loop.place s.words.sizes.1 in
    omega (arith, up, most, c.loop.invariant.1)

pub loop-init : goal.loop-init
loop-init g c =
    let s = c.args.sizes in
    tail_none (sized_rule s (g.R.Rule.meaning c.args.self.now.rule)) (omega (arith, s.words.sizes.0)) (omega (arith, s.reach)) s.k s.some c.args.code

pub loop-preserved : goal.loop-preserved
loop-preserved g c =
    let s = c.args.sizes in
    tail_more (sized_rule s (g.R.Rule.meaning c.args.self.now.rule)) (omega (arith, s.words.sizes.0)) (omega (arith, s.reach)) s.k s.some
    c.args.code c.loop.counter c.loop.prefix c.loop.place c.loop.next c.last_letter.result s.words.sizes.0 c.loop-test.true c.last_letter.type_inv c.last_letter.ensures c.loop.invariant

pub returns : goal.returns
returns g c =
    let s = c.args.sizes in
    tail_all (sized_rule s (g.R.Rule.meaning c.args.self.now.rule)) (omega (arith, s.words.sizes.0)) (omega (arith, s.reach)) s.k s.some
    c.args.code c.loop.counter c.loop.prefix c.loop.place c.loop.next (omega arith) c.loop.invariant
