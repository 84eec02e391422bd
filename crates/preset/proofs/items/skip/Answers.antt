use Rattle.std.proofs.Common.{sym, ap, ◌∙◌, arith}
use Rattle.std.proofs.lemmas.Result.{err_from_is_err_and}
use Rattle.preset.specs.Answers.{skipped}
use Rattle.preset.proofs.Turns.{skipped_more, many-stop, skipped-all}
use Rattle.preset.proofs.items.skip.Goals as goal

pub returns-in_err-read : goal.returns-in_err-read
returns-in_err-read g c =
    let input = c.args.input.now in
    let read = g.T.PresetItem.format.reads c.args.limits input.whole in
    let inv = c.loop.invariant in
    let e = rw inv.0 at c.in_err-read.ensures.answer_is in
    let p = err_from_is_err_and c.from_residual.result c.from_residual.ensures.1 in
    let s = many-stop read c.args.count c.loop.counter c.loop.input.bytes.now _ (omega arith) e in
    rw (p.1, p.2) (record { answer_is = sym (inv.1 ∙ ap skipped s); same_input = c.in_err-read.ensures.same_input ∙ inv.0 })

pub loop-preserved : goal.loop-preserved
loop-preserved g c =
    let input = c.args.input.now in
    let read = g.T.PresetItem.format.reads c.args.limits input.whole in
    let inv = c.loop.invariant in
    let e = rw inv.0 at c.in_ok-read.ensures.answer_is in
    let m = skipped_more read c.args.count c.loop.counter c.loop.input.bytes.now c.in_ok-read.field-0 c.read.new.input.bytes.now (omega arith) e in
    (c.in_ok-read.ensures.same_input ∙ inv.0, inv.1 ∙ m)

pub returns : goal.returns
returns g c =
    let read = g.T.PresetItem.format.reads c.args.limits c.args.input.now.whole in
    record { answer_is = sym (c.loop.invariant.1 ∙ skipped-all read c.args.count c.loop.counter c.loop.input.bytes.now (omega arith)); same_input = c.loop.invariant.0 }
