use Rattle.std.proofs.Common.{false-eqb}
use Rattle.std.proofs.lemmas.List.{take_rest}
use Rattle.cli.proofs.LineCuts.{line_ended, line_last}
use Rattle.cli.proofs.text_lines.first_line.Goals as goal

pub returns-in-empty-clause-lines : goal.returns-in-empty-clause-lines
returns-in-empty-clause-lines c =
    line_last c.args.text.now c.cut-line.result.leading.now c.cut-line.result.past.now (false-eqb _ _ c.if-is_empty.ensures) c.cut-line.ensures.leading c.cut-line.ensures.past c.in-empty.len_below

pub returns-in-len1-up-clause-lines : goal.returns-in-len1-up-clause-lines
returns-in-len1-up-clause-lines c =
    rw take_rest (line_ended c.args.text.now c.cut-line.result.leading.now c.cut-line.result.past.now (false-eqb _ _ c.if-is_empty.ensures) c.cut-line.ensures.leading c.cut-line.ensures.past)
