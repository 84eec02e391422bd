use Rattle.std.proofs.Common.{ap, ◌∙◌}
use Rattle.console.specs.Names.{named_kind}
use Rattle.console.specs.Places.{place_meant}
use Rattle.console.specs.Results.{value_as}
use Rattle.console.specs.Rows.{row_of, kind_row}
use Rattle.console.specs.declared.error.Expected.TheVariants.{Kind}
use Rattle.console.specs.declared.page_part.PagePart.TheVariants as part
use Rattle.console.proofs.Reading.{passed_on, value_stops, value_with}
use Rattle.console.proofs.row.read_kind_row.Goals as goal

pub returns-in_err-row : goal.returns-in_err-row
unfolding kind_row
returns-in_err-row c =
    let out = passed_on c.from_residual.result c.in_err-row.field-0.0 c.from_residual.ensures.1 in
    rw out (value_stops named_kind part.Kind Kind (place_meant c.args.place) c.in_err-row.field-0.0 c.in_err-row.ensures)

pub returns : goal.returns
unfolding kind_row
returns c = ap (value_as (row_of (λ x. x))) c.with.ensures ∙ value_with named_kind part.Kind Kind (place_meant c.args.place) c.in_ok-row.row c.kind_named.result c.in_ok-row.ensures c.kind_named.ensures
