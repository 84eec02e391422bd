-- How a page is turned into a preset's bytes. Assumes nothing.
use Rattle.std.specs.Prelude.{◌≡◌, ℕ, ◌≤◌, cond, List, ◌++◌, length, Some, None, Ok, Err, codes, decimal, Option, Result, ◌==◌}
use Rattle.std.specs.Result.{result_map_both}
use Rattle.fault.specs.Limits.{most_window, most_width}
use Rattle.fault.specs.declared.Fault.{Fault}
use Rattle.fault.specs.Refusals.{Refusal, refusal, reason_of, sentence as fault-sentence}
use Rattle.fault.specs.Answers.{and_then}
use Rattle.preset.specs.Laws.{Bytes}
use Rattle.preset.specs.Presets.{item_count}
use Rattle.preset.specs.Writes.{preset_to_write, preset_bytes, with_byte_room}
use Rattle.console.specs.Errors.{text_sentence}
use Rattle.console.specs.Grammar.{Content, parsed}
use Rattle.console.specs.Refusals.{refused_line}
use Rattle.console.specs.Results.{error_as}
use Rattle.console.specs.Shows.{page_shown}
use Rattle.console.specs.declared.encode.EncodeError.{EncodeError}
use Rattle.console.specs.declared.encode.EncodeError.TheVariants.{Text, Letters, Entries, Refused}
use Rattle.console.specs.declared.error.TextError.{TextError}
use Rattle.console.specs.declared.error.TextError.TheVariants.{Memory}
use Rattle.console.specs.declared.part_lines.PartLines.{PartLines}

-- no preset takes more bytes than this
abbrev pub most_preset : ℕ
most_preset = 32768

-- why a page gives no preset: the text is no page, the rule's or the density's line has another count of items
-- than the header asks, or the writer refuses
pub data Problem : Type 0 where
  text : TextError → Problem
  letters : ℕ → ℕ → Problem
  entries : ℕ → ℕ → Problem
  refused : PartLines → Refusal → Problem

abbrev pub Encoding : Type 0 → Type 0
Encoding X = Result X Problem

abbrev pub problem : EncodeError → Problem
problem (Text e) = text e
problem (Letters line n) = letters line n
problem (Entries line n) = entries line n
problem (Refused lines f) = refused lines (refusal f)

-- an answer by what its value stands for
abbrev pub answered : {X Y : Type 0} → (X → Y) → Result X EncodeError → Encoding Y
answered f r = result_map_both f problem r

-- there is no memory
abbrev pub no_memory : Problem
no_memory = text Memory

-- an answer of the writer, with the lines of the page by its refusal
abbrev pub from_writer : {X : Type 0} → PartLines → Result X Refusal → Encoding X
from_writer lines r = error_as (refused lines) r

-- the count that a header asks for, if it counts and there are not so many
abbrev pub miscounted : Option ℕ → ℕ → Option ℕ
miscounted None have = None
miscounted (Some n) have = cond (n == have) None (Some n)

abbrev pub unless_miscounted : (ℕ → Problem) → Option ℕ → Encoding (Unit {0})
unless_miscounted because None = Ok tt
unless_miscounted because (Some n) = Err (because n)

abbrev pub counts_tested : Content → Encoding (Unit {0})
counts_tested d =
    and_then (unless_miscounted (letters d.lines.rule) (miscounted (item_count most_window d.header.q d.header.n) (length d.letters))) (λ _.
    unless_miscounted (entries d.lines.density) (miscounted (item_count most_width d.header.q d.header.k) (length d.entries)))

-- the bytes of what a page holds
abbrev pub bytes_of : Content → Encoding (List ℕ)
bytes_of d =
    and_then (counts_tested d) (λ _.
    from_writer d.lines (and_then (preset_to_write d.header d.letters d.entries) (λ p. with_byte_room most_preset (preset_bytes p))))

-- the bytes of the preset that a text writes
abbrev pub encoded : List ℕ → Encoding (List ℕ)
encoded bs = and_then (error_as text (parsed bs)) bytes_of

-- what is shown of a preset is encoded as its bytes again
abbrev pub ShownEncodesBack : Type 0
ShownEncodesBack =
    (bs page : List ℕ) → Bytes bs → length bs ≤ most_preset → page_shown bs ≡ Ok page → encoded page ≡ Ok bs

-- why a page gives no preset, in one sentence: by the line of the part that is refused, if it is known
abbrev pub refused_text : Fault → Option ℕ → List ℕ
refused_text fault None = fault-sentence fault
refused_text fault (Some line) = codes "Line " ++ (decimal line ++ (codes ": " ++ (reason_of fault.stop ++ codes ".")))

abbrev pub encode_sentence : EncodeError → List ℕ
encode_sentence (Text e) = text_sentence e
encode_sentence (Letters line n) = codes "Line " ++ (decimal line ++ (codes ": expected " ++ (decimal n ++ codes " letters.")))
encode_sentence (Entries line n) = codes "Line " ++ (decimal line ++ (codes ": expected " ++ (decimal n ++ codes " entries.")))
encode_sentence (Refused lines fault) = refused_text fault (refused_line lines fault.stop)
