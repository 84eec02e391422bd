use Rattle.std.proofs.Common.{◌∙◌, arith}
use Rattle.std.proofs.lemmas.List.{length-take-le}
use Rattle.preset.specs.Answers.{many}
use Rattle.preset.proofs.Turns.{ok-first, ok_more, ahead_more, ahead_all}
use Rattle.preset.proofs.items.fill.Goals as goal

pub read_there-requires : goal.read_there-requires
read_there-requires g c =
    let read = g.T.PresetItem.format.reads c.args.limits c.args.input.whole in
    let inv = c.loop-item.invariant in
    let some = length-take-le c.args.count c.args.strip.now c.requires.room in
    rw inv.0 (ok-first read c.args.count c.loop-item.item-index c.loop-item.input.bytes.now (omega arith) inv.2)

pub loop-item-preserved : goal.loop-item-preserved
loop-item-preserved g c =
    let read = g.T.PresetItem.format.reads c.args.limits c.args.input.whole in
    let inv = c.loop-item.invariant in
    let some = length-take-le c.args.count c.args.strip.now c.requires.room in
    let i = c.loop-item.item-index in
    let bs = c.loop-item.input.bytes.now in
    let x = c.read_there.result in
    let tail = c.read_there.new.input.bytes.now in
    let e = rw inv.0 at c.read_there.ensures.answer_is in (
      c.read_there.ensures.same_input ∙ inv.0,
      ahead_more read c.args.count i bs x tail c.loop-item.item-items (many read c.args.count c.args.input.bytes.now) (omega arith) (omega arith) e inv.1,
      ok_more read c.args.count i bs x tail (omega arith) e inv.2,
    )

pub returns : goal.returns
returns g c =
    let read = g.T.PresetItem.format.reads c.args.limits c.args.input.whole in
    let inv = c.loop-item.invariant in
    let some = length-take-le c.args.count c.args.strip.now c.requires.room in
    ahead_all read c.args.count c.loop-item.item-index c.loop-item.input.bytes.now c.loop-item.item-items c.args.strip.now (many read c.args.count c.args.input.bytes.now) (omega arith) (omega arith) inv.1
