use Rattle.std.proofs.Common.{ℕ, List, ◌++◌, string_bytes, ap, ◌∙◌}
use Rattle.preset.specs.declared.entry.Entry.{Entry}
use Rattle.report.specs.Texts.{row_text, notation_of}
use Rattle.report.proofs.Tables.{rows_grow}
use Rattle.report.proofs.rows.rows_text.Goals as goal

pub loop-code-preserved : goal.loop-code-preserved
loop-code-preserved g c =
    let row : ℕ → g.row.C.Denot → List ℕ = λ i x. row_text (notation_of c.args.notation) i (g.C.Sent.sending.entry x) in
    rows_grow row c.args.crossings.now c.loop-code.code c.index-crossings-code.result c.loop-code-test.true c.index-crossings-code.is (string_bytes c.loop-code.text) (string_bytes c.push_row.new.text) c.loop-code.invariant (c.in_ok-push_row.ensures ∙ ap (λ (e : Entry). string_bytes c.loop-code.text ++ row_text (notation_of c.args.notation) c.loop-code.code e) c.to_entry.ensures)
