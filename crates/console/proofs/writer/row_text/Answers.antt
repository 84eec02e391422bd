use Rattle.std.proofs.Common.{ℕ, List, ◌∷◌, ◌++◌, sym, ap, ◌∙◌}
use Rattle.console.proofs.Rows.{spaced_more, spaced_all}
use Rattle.console.proofs.writer.row_text.Goals as goal

pub loop-item-preserved : goal.loop-item-preserved
loop-item-preserved g c =
    let shows = g.T.PageItem.form.shows c.args.kind in
    c.in_ok-push.ensures
    ∙ (ap (λ (a : List ℕ). a ++ (32 ∷ shows c.item-item.result)) c.loop-item.invariant
    ∙ sym (spaced_more shows c.args.items.now c.loop-item.item-index c.item-item.result c.loop-item-test.true c.item-item.is))

pub returns : goal.returns
returns g c = c.loop-item.invariant ∙ spaced_all (g.T.PageItem.form.shows c.args.kind) c.args.items.now c.loop-item.item-index c.loop-item-test.false
