-- Letters and entries as words of a page. Assumes nothing.
use Rattle.std.specs.Prelude.{ℕ, cond, List, [], ◌∷◌, ◌++◌, ℤ, pos, Some, None, decimal, Option, nat_lt}
use Rattle.std.specs.Fmt.{signed_decimal}
use Rattle.charge.specs.declared.kind.ChargeKind.{ChargeKind}
use Rattle.charge.specs.declared.kind.ChargeKind.TheVariants.{Voices, Pitch, Channels, Both, Cents}
use Rattle.preset.specs.declared.entry.Entry.{Entry}
use Rattle.console.specs.Numbers.{number, signed_number}
use Rattle.console.specs.Cutting.{leading, past}
use Rattle.console.specs.declared.error.Expected.{Expected}
use Rattle.console.specs.declared.error.Expected.TheVariants as expected
use Rattle.console.specs.declared.cutting.Class.TheVariants.{NotColon}

-- How an item is read from a word and written as a word, under a kind of charge, and what is expected where
-- a word is no item.
pub record Form (X : Type 0) : Type 0 where
  pub reads : ChargeKind → List ℕ → Option X
  pub shows : ChargeKind → X → List ℕ
  pub expected : Expected

-- a number below an end
abbrev pub under : ℕ → Option ℕ → Option ℕ
under end None = None
under end (Some v) = cond (nat_lt v end) (Some v) None

abbrev pub letter : List ℕ → Option ℕ
letter w = under 256 (number w)

-- an entry of two parts, if each is there
abbrev pub paired : Option ℤ → Option ℕ → Option Entry
paired None p = None
paired (Some s) None = None
paired (Some s) (Some p) = Some (record { signed = s; plain = p })

-- the parts before and after a colon
abbrev pub halves : List ℕ → List ℕ → Option Entry
halves w [] = None
halves w (colon ∷ v) = paired (signed_number w) (number v)

abbrev pub entry : ChargeKind → List ℕ → Option Entry
entry Voices w = paired (signed_number w) (Some 0)
entry Pitch w = paired (Some (pos 0)) (number w)
entry Channels w = paired (Some (pos 0)) (number w)
entry Both w = halves (leading NotColon w) (past NotColon w)
entry Cents w = paired (Some (pos 0)) (number w)

abbrev pub entry_text : ChargeKind → Entry → List ℕ
entry_text Voices e = signed_decimal e.signed
entry_text Pitch e = decimal e.plain
entry_text Channels e = decimal e.plain
entry_text Both e = signed_decimal e.signed ++ (58 ∷ decimal e.plain)
entry_text Cents e = decimal e.plain

abbrev pub letter_form : Form ℕ
letter_form = record { reads = λ _. letter; shows = λ _. decimal; expected = expected.Letter }

abbrev pub entry_form : Form Entry
entry_form = record { reads = entry; shows = entry_text; expected = expected.Entry }
