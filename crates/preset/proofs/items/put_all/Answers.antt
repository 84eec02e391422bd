use Rattle.std.proofs.Common.{take, sym, ap, ◌∙◌, arith}
use Rattle.fault.specs.Answers.{at_front}
use Rattle.preset.specs.Items.{sent}
use Rattle.preset.proofs.Fronts.{rest_room, front_put}
use Rattle.preset.proofs.Turns.{sent_more, length-sent_more, more_room}
use Rattle.preset.proofs.items.put_all.Goals as goal

pub put-count-requires : goal.put-count-requires
put-count-requires g c =
    let sends = g.T.Encode.bytes c.args.limits in
    let items = c.args.items.now in
    let i = c.loop-item.item-index in
    let x = c.item-item.result in
    let inv = c.loop-item.invariant in
    rest_room c.args.out.now (sent sends (take i items)) (sends x) c.loop-item.out c.loop-item.count inv.0 inv.1 (more_room sends items i x c.loop-item-test.true c.item-item.is _ c.requires)

pub loop-item-preserved : goal.loop-item-preserved
loop-item-preserved g c =
    let sends = g.T.Encode.bytes c.args.limits in
    let items = c.args.items.now in
    let i = c.loop-item.item-index in
    let x = c.item-item.result in
    let inv = c.loop-item.invariant in
    let more = sent_more sends items i x c.loop-item-test.true c.item-item.is in
    let put = front_put c.args.out.now (sent sends (take i items)) (sends x) c.loop-item.out c.loop-item.count inv.0 inv.1 (more_room sends items i x c.loop-item-test.true c.item-item.is _ c.requires) c.put-count.new.out c.put-count.ensures.strip in (
      omega (arith, c.put-count.ensures.count, inv.0, length-sent_more sends items i x c.loop-item-test.true c.item-item.is),
      put ∙ ap (λ bs. at_front bs c.args.out.now) (sym more),
    )
