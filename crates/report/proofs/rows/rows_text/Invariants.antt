use Rattle.std.proofs.Common.{◌≡◌, take, string_bytes}
use Rattle.report.specs.Texts.{row_text, rows_text, notation_of}
use Rattle.report.proofs.rows.rows_text.Given as goal

abbrev pub invariant-loop-code : goal.invariant-loop-code
invariant-loop-code g l = string_bytes l.text ≡ rows_text (λ i x. row_text (notation_of l.notation) i (g.C.Sent.sending.entry x)) 0 (take l.code l.crossings)
