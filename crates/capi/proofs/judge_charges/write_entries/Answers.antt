use Rattle.std.proofs.Common.{length, ap, ◌∙◌, arith}
use Rattle.std.proofs.lemmas.List.{drop-set-lt}
use Rattle.capi.proofs.Strips.{front-more}
use Rattle.capi.proofs.judge_charges.write_entries.Goals as goal

pub loop-i-preserved : goal.loop-i-preserved
loop-i-preserved g c =
    let entry = g.C.Sent.sending.entry in
    let now = c.loop-i in (
      front-more entry c.args.charges.now now.strip now.i c.index-charges-i.result c.to_entry.result (omega arith) (omega arith) now.invariant.0 (c.to_entry.ensures ∙ ap entry c.index-charges-i.is),
      drop-set-lt (length c.args.charges.now) now.strip now.i c.to_entry.result (omega arith) ∙ now.invariant.1,
    )
