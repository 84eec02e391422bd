use Rattle.std.proofs.Common.{length, ap, ◌∙◌, arith}
use Rattle.std.proofs.lemmas.List.{take_all}
use Rattle.preset.specs.Items.{sent}
use Rattle.preset.proofs.Turns.{length-sent_more}
use Rattle.preset.proofs.items.total_len.Goals as goal

pub loop-item-preserved : goal.loop-item-preserved
loop-item-preserved g c =
    let sends = g.T.Encode.bytes c.args.limits in
    (omega (arith, length-sent_more sends c.args.items.now c.loop-item.item-index c.item-item.result c.loop-item-test.true c.item-item.is), omega arith)

pub returns : goal.returns
returns g c =
    let sends = g.T.Encode.bytes c.args.limits in
    let t = take_all c.loop-item.item-index c.args.items.now c.loop-item-test.false in
    record { count = c.loop-item.invariant.0 ∙ ap (λ xs. length (sent sends xs)) t; bound = omega arith }
