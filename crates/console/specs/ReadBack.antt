-- What is written as a page is read as the same preset. Assumes nothing.
use Rattle.std.specs.Prelude.{◌≡◌, ℕ, ◌<◌, List, pos, Ok, unsigned_abs}
use Rattle.std.specs.List.{AllByRecursion}
use Rattle.charge.specs.Numbers.{number_of}
use Rattle.charge.specs.declared.kind.ChargeKind.{ChargeKind}
use Rattle.charge.specs.declared.kind.ChargeKind.TheVariants.{Voices, Pitch, Channels, Both, Cents}
use Rattle.preset.specs.declared.entry.Entry.{Entry}
use Rattle.preset.specs.declared.header.Header.{Header}
use Rattle.console.specs.Grammar.{parsed}
use Rattle.console.specs.Numbers.{number_end}
use Rattle.console.specs.declared.part_lines.PartLines.{PartLines}

-- an entry has the parts of its kind and no other, and they are numbers of a page
abbrev pub OfKind : ChargeKind → Entry → Type 0
OfKind Voices e = (unsigned_abs e.signed < number_end) × (e.plain ≡ 0)
OfKind Pitch e = (e.signed ≡ pos 0) × (e.plain < number_end)
OfKind Channels e = (e.signed ≡ pos 0) × (e.plain < number_end)
OfKind Both e = (unsigned_abs e.signed < number_end) × (e.plain < number_end)
OfKind Cents e = (e.signed ≡ pos 0) × (e.plain < number_end)

-- A preset that a page can hold.
pub record Holdable (kind : ChargeKind) (header : Header) (letters : List ℕ) (entries : List Entry) (bytes : ℕ) : Type 0 where
  pub same_kind : header.kind ≡ number_of kind
  pub q : header.q < number_end
  pub n : header.n < number_end
  pub l : header.l < number_end
  pub k : header.k < number_end
  pub letter : AllByRecursion (λ x. x < 256) letters
  pub entry : AllByRecursion (OfKind kind) entries
  pub count : bytes < number_end

-- a page of eight lines
abbrev pub page_lines : PartLines
page_lines = record { kind = 1; letters = 2; window = 3; reach = 4; width = 5; rule = 6; density = 7 }

-- a text is read as a preset
abbrev pub ReadsAs : ChargeKind → Header → List ℕ → List Entry → List ℕ → Type 0
ReadsAs kind header letters entries text =
    parsed text ≡ Ok (record { kind = kind; header = header; letters = letters; entries = entries; lines = page_lines })
