use Rattle.std.proofs.Common.{sym, ◌∙◌}
use Rattle.console.specs.Places.{place_meant}
use Rattle.console.specs.Rows.{row_of}
use Rattle.console.proofs.Reading.{passed_on, ending_none, ending_stops, ending_wrong, ending-is}
use Rattle.console.proofs.row.read_end.Goals as goal

pub returns-then-is_empty : goal.returns-then-is_empty
returns-then-is_empty c = ending_none (place_meant c.args.place) (place_meant c.next_word.result) c.next_word.ensures (sym c.if-is_empty.ensures)

pub returns-in_err-bytes : goal.returns-in_err-bytes
returns-in_err-bytes c =
    passed_on c.from_residual.result c.in_err-bytes.field-0.0 c.from_residual.ensures.1
    ∙ ending_stops (place_meant c.args.place) (place_meant c.next_word.result) c.next_word.ensures (sym c.if-is_empty.ensures) c.in_err-bytes.field-0.0 c.in_err-bytes.ensures

pub returns-then-not-is_empty : goal.returns-then-not-is_empty
returns-then-not-is_empty c =
    ending_wrong (place_meant c.args.place) (place_meant c.next_word.result) c.next_word.ensures (sym c.if-is_empty.ensures) (row_of (λ v. v) c.in_ok-bytes.bytes) c.in_ok-bytes.ensures (place_meant c.next_word-end.result) c.next_word-end.ensures (sym c.if-not-is_empty.ensures)

pub returns : goal.returns
returns c =
    ending-is (place_meant c.args.place) (place_meant c.next_word.result) c.next_word.ensures (sym c.if-is_empty.ensures) (row_of (λ v. v) c.in_ok-bytes.bytes) c.in_ok-bytes.ensures (place_meant c.next_word-end.result) c.next_word-end.ensures (sym c.if-not-is_empty.ensures)
