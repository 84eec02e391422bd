-- A text that is a page, and the preset that it writes. Assumes nothing.
use Rattle.std.specs.Prelude.{ℕ, List, filter_map, Ok, vec_items}
use Rattle.charge.specs.Numbers.{number_of}
use Rattle.charge.specs.declared.kind.ChargeKind.{ChargeKind}
use Rattle.fault.specs.Answers.{and_then}
use Rattle.preset.specs.declared.entry.Entry.{Entry}
use Rattle.preset.specs.declared.header.Header.{Header}
use Rattle.console.specs.Forms.{letter, entry}
use Rattle.console.specs.Rows.{PageRow, TextReading, kind_row, number_row, items_row, ending}
use Rattle.console.specs.Cutting.{TextPlace, words_left}
use Rattle.console.specs.declared.parsed_page.ParsedPage.{ParsedPage}
use Rattle.console.specs.declared.error.Expected.TheVariants as expected
use Rattle.console.specs.declared.part_lines.PartLines.{PartLines}
use Rattle.console.specs.declared.outline.Outline.{Outline}
use Rattle.console.specs.declared.page_part.PagePart.TheVariants.{Letters, Window, Reach, Width, Rule, Density}

-- What a page holds, and the lines that its parts stand on.
pub record Content : Type 0 where
  pub kind : ChargeKind
  pub header : Header
  pub letters : List ℕ
  pub entries : List Entry
  pub lines : PartLines

abbrev pub content : ParsedPage → Content
content d = record { kind = d.kind; header = d.header; letters = vec_items d.letters; entries = vec_items d.entries; lines = d.lines }

-- the same of an outline, whose rows are the words that write the items
abbrev pub outlined : Outline → Content
outlined o = record { kind = o.kind; header = o.header; letters = filter_map letter (words_left o.letters); entries = filter_map (entry o.kind) (words_left o.entries); lines = o.lines }

-- the lines of the kind and the sizes
pub record Sizes : Type 0 where
  pub kind : PageRow ChargeKind
  pub q : PageRow ℕ
  pub n : PageRow ℕ
  pub l : PageRow ℕ
  pub k : PageRow ℕ

-- one part after another
abbrev pub sizes_at : TextPlace → TextReading Sizes
sizes_at start =
    and_then (kind_row start) (λ kind.
    and_then (number_row Letters kind.after) (λ q.
    and_then (number_row Window q.after) (λ n.
    and_then (number_row Reach n.after) (λ l.
    and_then (number_row Width l.after) (λ k.
    Ok (record { kind = kind; q = q; n = n; l = l; k = k }))))))

abbrev pub parsed_at : TextPlace → TextReading Content
parsed_at start =
    and_then (sizes_at start) (λ s.
    and_then (items_row letter expected.Letter Rule s.k.after) (λ rule.
    and_then (items_row (entry s.kind.value) expected.Entry Density rule.after) (λ density.
    and_then (ending density.after) (λ _.
    Ok (record {
      kind = s.kind.value;
      header = record { kind = number_of s.kind.value; q = s.q.value; n = s.n.value; l = s.l.value; k = s.k.value };
      letters = rule.value;
      entries = density.value;
      lines = record { kind = s.kind.line; letters = s.q.line; window = s.n.line; reach = s.l.line; width = s.k.line; rule = rule.line; density = density.line };
    })))))

-- the text from its first line on
abbrev pub text_start : List ℕ → TextPlace
text_start text = record { passed = 0; text = text }

abbrev pub parsed : List ℕ → TextReading Content
parsed text = parsed_at (text_start text)
