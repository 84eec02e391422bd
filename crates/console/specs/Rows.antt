-- The lines of a page, each with one part of a preset. Assumes nothing.
use Rattle.std.specs.Prelude.{ℕ, ◌+◌, cond, List, [], ◌∷◌, length, Ok, Err, Option, Result, ◌==◌}
use Rattle.std.specs.Option.{ok_or}
use Rattle.std.specs.Str.{bytes_eq}
use Rattle.fault.specs.Answers.{and_then}
use Rattle.console.specs.Names.{part_text, named_kind}
use Rattle.console.specs.Numbers.{number}
use Rattle.console.specs.Places.{place_meant, next_place}
use Rattle.console.specs.Cutting.{TextPlace, leading, past, words}
use Rattle.console.specs.declared.error.Expected.{Expected}
use Rattle.console.specs.declared.error.Expected.TheVariants.{Name, Kind, Number, LineEnd, TextEnd}
use Rattle.console.specs.declared.error.TextError.{TextError}
use Rattle.console.specs.declared.error.TextError.TheVariants.{Ended, Wrong}
use Rattle.console.specs.declared.page_part.PagePart.{PagePart}
use Rattle.console.specs.declared.page_part.PagePart.TheVariants as part
use Rattle.console.specs.declared.row.Row.{Row}
use Rattle.console.specs.declared.cutting.Class.TheVariants.{NotNewline}
use Rattle.charge.specs.declared.kind.ChargeKind.{ChargeKind}

-- What a line says, its number, and the place after it.
pub record PageRow (X : Type 0) : Type 0 where
  pub value : X
  pub line : ℕ
  pub after : TextPlace

abbrev pub TextReading : Type 0 → Type 0
TextReading X = Result X TextError

-- a row by what its value stands for, with the place past it as plain numbers
abbrev pub row_of : {X Y : Type 0} → (X → Y) → Row X → PageRow Y
row_of f r = record { value = f r.value; line = r.line; after = place_meant r.after }

abbrev pub valued : {X Y : Type 0} → PageRow X → Y → PageRow Y
valued r y = record { value = y; line = r.line; after = r.after }

-- the words after a part's name
abbrev pub named_row : PagePart → ℕ → TextPlace → List (List ℕ) → TextReading (PageRow (List (List ℕ)))
named_row part line past [] = Err (Wrong line (Name part))
named_row part line past (w ∷ ws) = cond (bytes_eq w (part_text part)) (Ok (record { value = ws; line = line; after = past })) (Err (Wrong line (Name part)))

abbrev pub named_at : PagePart → TextPlace → TextReading (PageRow (List (List ℕ)))
named_at part p =
    cond (length p.text == 0)
    (Err (Ended part))
    (named_row part (p.passed + 1) (record { passed = p.passed; text = past NotNewline p.text }) (words (leading NotNewline p.text)))

-- the line of a part is the next that has a word, and begins with the part's name
unfoldable pub row : PagePart → TextPlace → TextReading (PageRow (List (List ℕ)))
row part place = named_at part (next_place place)

-- the only word
abbrev pub only_word : Expected → ℕ → List (List ℕ) → TextReading (List ℕ)
only_word expected line [] = Err (Wrong line expected)
only_word expected line (w ∷ []) = Ok w
only_word expected line (w ∷ (v ∷ ws)) = Err (Wrong line LineEnd)

-- the line of a part that is one word
unfoldable pub word_row : PagePart → Expected → TextPlace → TextReading (PageRow (List ℕ))
word_row part expected place = and_then (row part place) (λ r. and_then (only_word expected r.line r.value) (λ w. Ok (valued r w)))

-- the word is read
abbrev pub value_row : {X : Type 0} → (List ℕ → Option X) → PagePart → Expected → TextPlace → TextReading (PageRow X)
value_row reads part expected place =
    and_then (word_row part expected place) (λ r. and_then (ok_or (reads r.value) (Wrong r.line expected)) (λ x. Ok (valued r x)))

unfoldable pub number_row : PagePart → TextPlace → TextReading (PageRow ℕ)
number_row part place = value_row number part Number place

unfoldable pub kind_row : TextPlace → TextReading (PageRow ChargeKind)
kind_row place = value_row named_kind part.Kind Kind place

-- each word is an item
abbrev pub each : {X : Type 0} → (List ℕ → Option X) → Expected → ℕ → List (List ℕ) → TextReading (List X)
each reads expected line [] = Ok []
each reads expected line (w ∷ ws) =
    and_then (ok_or (reads w) (Wrong line expected)) (λ x. and_then (each reads expected line ws) (λ xs. Ok (x ∷ xs)))

-- the line of a part that is any number of items
abbrev pub items_row : {X : Type 0} → (List ℕ → Option X) → Expected → PagePart → TextPlace → TextReading (PageRow (List X))
items_row reads expected part place =
    and_then (row part place) (λ r. and_then (each reads expected r.line r.value) (λ xs. Ok (valued r xs)))

-- nothing but blanks and ends of lines follows
abbrev pub text_end : TextPlace → TextReading (Unit {0})
text_end p = cond (length p.text == 0) (Ok tt) (Err (Wrong (p.passed + 1) TextEnd))

-- a line with the number of bytes may follow, and then nothing
unfoldable pub ending : TextPlace → TextReading (Unit {0})
ending place =
    cond (length (next_place place).text == 0)
    (Ok tt)
    (and_then (number_row part.Bytes place) (λ r. text_end (next_place r.after)))
