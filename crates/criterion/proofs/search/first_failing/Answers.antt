use Rattle.std.proofs.Common.{arith}
use Rattle.criterion.proofs.Sizes.{heads-few}
use Rattle.criterion.proofs.Prefixes.{filled-count}
use Rattle.criterion.proofs.Failing.{search_more, search-stop, search_end}
use Rattle.criterion.proofs.search.first_failing.Goals as goal

pub code_of-code-requires : goal.code_of-code-requires
code_of-code-requires g c =
    let K = g.C.Charge.kind in
    let d = g.L.Label.labels K c.args.label.now in
    let labelled = g.L.Label.lawful K c.args.label.now in
    record { small = (omega (arith, labelled.sizes.1), omega (arith, heads-few d labelled, filled-count K d c.args.crossings.now c.requires)); within = (c.loop-head-test.true, c.loop-last-test.true) }

pub loop-last-preserved : goal.loop-last-preserved
loop-last-preserved g c =
    let K = g.C.Charge.kind in
    search_more K _ (g.L.Label.lawful K c.args.label.now) _ _ _ _ _ _ (filled-count K _ c.args.crossings.now c.requires) c.q-q.ensures
    c.code_of-code.ensures.is c.code_of-code.ensures.below c.loop-last.invariant c.fails.ensures c.if-fails.false

pub returns-then-fails : goal.returns-then-fails
returns-then-fails g c =
    let K = g.C.Charge.kind in
    search-stop K _ (g.L.Label.lawful K c.args.label.now) _ _ _ _ _ _ (filled-count K _ c.args.crossings.now c.requires) c.q-q.ensures
    c.code_of-code.ensures.is c.code_of-code.ensures.below c.loop-last.invariant c.fails.ensures c.if-fails.true

pub returns-after-loop-head : goal.returns-after-loop-head
returns-after-loop-head g c =
    let K = g.C.Charge.kind in
    let label = c.args.label.now in
    search_end K (g.L.Label.labels K label) (g.L.Label.lawful K label) c.loop-head.head (omega (arith, filled-count K (g.L.Label.labels K label) c.args.crossings.now c.requires)) c.loop-head.invariant
