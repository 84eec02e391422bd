use Rattle.std.proofs.Common.{ap, ◌∙◌}
use Rattle.console.specs.Places.{place_meant}
use Rattle.console.specs.Results.{value_as}
use Rattle.console.specs.Rows.{row_of}
use Rattle.console.specs.Cutting.{words_left}
use Rattle.console.proofs.Reading.{passed_on, word_stops, word_wrong, word-is}
use Rattle.console.proofs.row.read_word.Goals as goal

pub returns-in_err-row : goal.returns-in_err-row
returns-in_err-row c =
    let out = passed_on c.from_residual.result c.in_err-row.field-0.0 c.from_residual.ensures.1 in
    rw out (word_stops c.args.part c.args.expected (place_meant c.args.place) c.in_err-row.field-0.0 c.in_err-row.ensures)

pub returns-in_err-word : goal.returns-in_err-word
returns-in_err-word c =
    let out = passed_on c.from_residual-in_err-word.result c.in_err-word.field-0.0 c.from_residual-in_err-word.ensures.1 in
    rw out (word_wrong c.args.part c.args.expected (place_meant c.args.place) (row_of words_left c.in_ok-row.row) c.in_ok-row.ensures c.in_err-word.field-0.0 c.in_err-word.ensures)

pub returns : goal.returns
returns c =
    ap (value_as (row_of (λ s. s.now))) c.with.ensures
    ∙ word-is c.args.part c.args.expected (place_meant c.args.place) (row_of words_left c.in_ok-row.row) c.in_ok-row.ensures c.in_ok-word.word.now c.in_ok-word.ensures
