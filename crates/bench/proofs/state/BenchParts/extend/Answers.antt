use Rattle.std.proofs.Common.{ℕ, ◌+◌, ◌*◌, ◌∙◌, arith, length-set}
use Rattle.bench.specs.KeptSizes.{next_word}
use Rattle.bench.proofs.Nexts.{next-small, extended-within, extended, known-more}
use Rattle.bench.proofs.state.BenchParts.extend.Goals as goal

pub overflow_cast-strip-in-loop-last : goal.overflow_cast-strip-in-loop-last
overflow_cast-strip-in-loop-last g c =
    let s = c.args.sizes in
    let r = g.R.Rule.meaning c.args.self.now.rule in
    let lawful = g.R.Rule.lawful c.args.self.now.rule in
    let is = extended s r lawful c.requires.rule c.args.strip.now c.args.head c.loop-last.last c.answer-letter.result c.requires.known c.loop-last-test.true c.answer-letter.ensures in
    omega (arith, is, next-small s r lawful c.requires.rule (c.args.head * s.words.q + c.loop-last.last))

pub bounds-strip-first : goal.bounds-strip-first
bounds-strip-first g c =
    extended-within c.args.sizes c.args.head c.loop-last.last _ c.loop-last.invariant.0
    (omega (arith, c.requires.word)) c.loop-last-test.true

pub loop-last-preserved : goal.loop-last-preserved
loop-last-preserved g c =
    let s = c.args.sizes in
    let r = g.R.Rule.meaning c.args.self.now.rule in
    let lawful = g.R.Rule.lawful c.args.self.now.rule in
    let first : ℕ = c.args.head * s.words.q in
    let is = extended s r lawful c.requires.rule c.args.strip.now c.args.head c.loop-last.last c.answer-letter.result c.requires.known c.loop-last-test.true c.answer-letter.ensures in
    let within = extended-within s c.args.head c.loop-last.last _ c.loop-last.invariant.0 (omega (arith, c.requires.word)) c.loop-last-test.true in (
      length-set c.loop-last.strip (first + c.loop-last.last) _ ∙ c.loop-last.invariant.0,
      λ i h. known-more (next_word s r) c.loop-last.strip (first + c.loop-last.last) _ within is c.loop-last.invariant.1 i (omega (arith, h)),
    )
