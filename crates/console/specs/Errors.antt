-- What is said of a text that is not a page. Assumes nothing.
use Rattle.std.specs.Prelude.{ℕ, List, ◌++◌, codes, decimal}
use Rattle.fault.specs.Refusals.{sentence as fault-sentence}
use Rattle.console.specs.Names.{part_text}
use Rattle.console.specs.declared.error.Expected.{Expected}
use Rattle.console.specs.declared.error.Expected.TheVariants.{Name, Kind, Number, Letter, Entry, LineEnd, TextEnd}
use Rattle.console.specs.declared.error.TextError.{TextError}
use Rattle.console.specs.declared.error.TextError.TheVariants.{Memory, Ended, Wrong}
use Rattle.console.specs.declared.failure.ShowError.{ShowError}
use Rattle.console.specs.declared.failure.ShowError.TheVariants as no

abbrev pub expected_text : Expected → List ℕ
expected_text (Name part) = codes "the word " ++ part_text part
expected_text Kind = codes "voices, pitch, channels, both or cents"
expected_text Number = codes "a number"
expected_text Letter = codes "a letter from 0 to 255"
expected_text Entry = codes "an entry of the kind"
expected_text LineEnd = codes "the end of the line"
expected_text TextEnd = codes "the end of the text"

-- an error in one sentence
abbrev pub text_sentence : TextError → List ℕ
text_sentence Memory = codes "There is not enough memory."
text_sentence (Ended part) = codes "The text ends where the line " ++ (part_text part ++ codes " is due.")
text_sentence (Wrong line expected) = codes "Line " ++ (decimal line ++ (codes ": expected " ++ (expected_text expected ++ codes ".")))

-- why a preset is not shown, in one sentence
abbrev pub show_sentence : ShowError → List ℕ
show_sentence no.Memory = codes "There is not enough memory."
show_sentence (no.Refused fault) = fault-sentence fault
