use Rattle.std.proofs.Common.{◌≡◌, ◌+◌, ◌*◌, ◌/◌, ◌<◌, ◌≤◌, length, set, sym, ap, ◌∙◌, arith, length-set, mul-pos, mul-le-mul_right}
use Rattle.std.proofs.lemmas.Grind.{get_or-set_at}
use Rattle.automaton.proofs.Codes.{power-some}
use Rattle.bench.specs.KeptSizes.{next_word}
use Rattle.bench.proofs.Nexts.{next-small, heads_count}
use Rattle.bench.proofs.state.BenchParts.write_next_words.Goals as goal

pub overflow_cast-strip : goal.overflow_cast-strip
overflow_cast-strip g c = omega (arith, c.next_code.ensures, next-small c.args.sizes _ (g.R.Rule.lawful c.args.self.now.rule) c.requires.rule 0)

pub bounds-strip-0 : goal.bounds-strip-0
bounds-strip-0 g c =
    let s = c.args.sizes in
    omega (arith, c.requires.room, s.words.counted, power-some s.words.q (omega (arith, s.words.sizes.0)) s.words.m)

pub loop-head-init : goal.loop-head-init
loop-head-init g c =
    let s = c.args.sizes in
    let r = g.R.Rule.meaning c.args.self.now.rule in
    let some : 0 < length c.args.strip.now = omega (arith, c.requires.room, s.words.counted, power-some s.words.q (omega (arith, s.words.sizes.0)) s.words.m) in (
      length-set c.args.strip.now 0 c.next_code.result ∙ c.requires.room,
      λ i h. let first : i ≡ 0 = omega (arith, h) in
          get_or-set_at c.args.strip.now 0 i c.next_code.result 0 first some ∙ c.next_code.ensures ∙ ap (next_word s r) (sym first),
    )

pub loop-head-preserved : goal.loop-head-preserved
loop-head-preserved g c =
    let s = c.args.sizes in
    let some : 0 < (c.loop-head.head + 1) * s.words.q = mul-pos (omega arith) (omega (arith, s.words.sizes.0)) in
    (c.extend.ensures.len ∙ c.loop-head.invariant.0, λ i h. c.extend.ensures.known i (omega (arith, h, some)))

pub returns-clause-known : goal.returns-clause-known
returns-clause-known g c =
    let s = c.args.sizes in
    let size : length (set c.args.strip.now 0 c.next_code.result) ≡ s.words.count = length-set c.args.strip.now 0 c.next_code.result ∙ c.requires.room in
    let last : s.words.count / s.words.q ≤ c.loop-head.head = omega (arith, c.loop-head-test.false, ap (λ n. n / s.words.q) size) in
    let all : s.words.count ≤ c.loop-head.head * s.words.q = omega (arith, heads_count s, mul-le-mul_right s.words.q last) in
    λ i h. c.loop-head.invariant.1 i (omega (arith, h, all, c.loop-head.invariant.0))
