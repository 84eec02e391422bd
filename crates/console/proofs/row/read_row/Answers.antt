use Rattle.std.proofs.Common.{sym, ap, ◌∙◌}
use Rattle.std.specs.Str.{bytes_eq}
use Rattle.console.specs.Places.{place_meant}
use Rattle.console.specs.Cutting.{words, words_left}
use Rattle.console.proofs.Reading.{row-ended, row_none, row_other, row_is}
use Rattle.console.proofs.row.read_row.Goals as goal

pub returns-then-is_empty : goal.returns-then-is_empty
returns-then-is_empty c = sym (row-ended c.args.part (place_meant c.args.place) (place_meant c.next_word-start.result) c.next_word-start.ensures (sym c.if-is_empty.ensures))

pub returns-in_default : goal.returns-in_default
returns-in_default c =
    let has = sym (ap words c.cut-parts.ensures.leading) ∙ c.in_default.ensures.steps.0 in
    sym (row_none c.args.part (place_meant c.args.place) (place_meant c.next_word-start.result) c.next_word-start.ensures (sym c.if-is_empty.ensures) has)

pub returns-then-not-is_text : goal.returns-then-not-is_text
returns-then-not-is_text c =
    let has = sym (ap words c.cut-parts.ensures.leading) ∙ c.in-Some.ensures.steps in
    let other = ap (bytes_eq c.in-Some.name.now) (sym c.name.ensures) ∙ sym c.if-not-is_text.ensures in
    sym (row_other c.args.part (place_meant c.args.place) (place_meant c.next_word-start.result) c.next_word-start.ensures (sym c.if-is_empty.ensures) c.in-Some.name.now (words_left c.next.new.self) has other)

pub returns : goal.returns
returns c =
    let has = sym (ap words c.cut-parts.ensures.leading) ∙ c.in-Some.ensures.steps in
    let same = ap (bytes_eq c.in-Some.name.now) (sym c.name.ensures) ∙ sym c.if-not-is_text.ensures in
    let is = row_is c.args.part (place_meant c.args.place) (place_meant c.next_word-start.result) c.next_word-start.ensures (sym c.if-is_empty.ensures) c.in-Some.name.now (words_left c.next.new.self) has same in
    rw c.cut-parts.ensures.past (sym is)
