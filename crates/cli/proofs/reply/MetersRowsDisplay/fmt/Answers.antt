use Rattle.std.proofs.Common.{◌+◌, take, sym, refl}
use Rattle.std.proofs.lemmas.Grind.{put_two}
use Rattle.report.specs.Texts.{rows_text}
use Rattle.cli.specs.Replies.{meters_row}
use Rattle.cli.proofs.Rows.{row_more}
use Rattle.cli.proofs.reply.MetersRowsDisplay.fmt.Goals as goal

pub loop-site-preserved : goal.loop-site-preserved
loop-site-preserved g c = λ plain.
    let row = meters_row g.C.Sent.sending in
    let readings = c.args.self.now.readings.now in
    let i = c.loop-site.site in
    let before = c.loop-site.invariant plain in
    put_two g.W.Write.write_str_gives c.args.f.now c.loop-site.f c.write.new.self
    (rows_text row 0 (take i readings)) (row i c.reading-item.result) (rows_text row 0 (take (i + 1) readings))
    before (c.in_ok-write.ensures.writes before.plain refl)
    (sym (row_more row readings i c.reading-item.result c.loop-site-test.true c.reading-item.is))
