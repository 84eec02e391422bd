-- Verdicts, comparisons and refusals as text. Assumes nothing.
use Rattle.std.specs.Prelude.{ℕ, suc, ◌≤◌, Bool, true, false, List, [], ◌∷◌, ◌++◌, length, take, Some, None, Ok, Err, codes, decimal, Option, Result}
use Rattle.fault.specs.declared.Fault.{Fault}
use Rattle.fault.specs.Refusals.{Refusal, refusal}
use Rattle.charge.specs.declared.kind.ChargeKind.{ChargeKind}
use Rattle.automaton.specs.Shown.{digits}
use Rattle.automaton.specs.Words.{word}
use Rattle.preset.specs.declared.entry.Entry.{Entry}
use Rattle.console.specs.Forms.{entry_text}
use Rattle.bench.specs.declared.state.Break.{Break}
use Rattle.report.specs.declared.report_line.Question.{Question}
use Rattle.report.specs.declared.report_line.Question.TheVariants.{Judge, Compare}
use Rattle.report.specs.declared.report_line.LineNotation.{LineNotation}

-- The kind of charge, the alphabet size, and how many letters the words have.
pub record Notation : Type 0 where
  pub kind : ChargeKind
  pub q : ℕ
  pub m : ℕ

abbrev pub notation_of : LineNotation → Notation
notation_of s = record { kind = s.kind; q = s.q; m = s.m }

-- the word for yes and the word for no
abbrev pub good_word : Question → List ℕ
good_word Judge = codes "holds"
good_word Compare = codes "agree"

abbrev pub bad_word : Question → List ℕ
bad_word Judge = codes "breaks"
bad_word Compare = codes "differ"

-- a tab before each part but the first
abbrev pub refused_text : List ℕ → Refusal → List ℕ
refused_text subject f = subject ++ (codes "\trefused\t" ++ (decimal f.0 ++ (codes "\t" ++ decimal f.1)))

abbrev pub kept_text : Question → List ℕ → List ℕ
kept_text question subject = subject ++ (codes "\t" ++ good_word question)

abbrev pub shown_text : Question → List ℕ → List ℕ → List ℕ → List ℕ → List ℕ → List ℕ
shown_text question subject word ring first second =
    subject ++ (codes "\t" ++ (bad_word question ++ (codes "\t" ++ (word ++ (codes "\t" ++ (ring ++ (codes "\t" ++ (first ++ (codes "\t" ++ second)))))))))

-- a failing word, the ring that shows it, and its two totals
abbrev pub finding_text : Question → List ℕ → Notation → List ℕ → Break Entry → List ℕ
finding_text question subject notation ring f =
    shown_text question subject (digits (word notation.q notation.m f.word)) (digits ring) (entry_text notation.kind f.first) (entry_text notation.kind f.second)

-- what was found, with a strip that begins with the ring that shows it
abbrev pub verdict_text : Question → List ℕ → Notation → List ℕ → Result (Option (Break Entry)) Fault → List ℕ
verdict_text question subject notation strip (Ok None) = kept_text question subject
verdict_text question subject notation strip (Ok (Some f)) = finding_text question subject notation (take f.len strip) f
verdict_text question subject notation strip (Err f) = refused_text subject (refusal f)

-- the answer is yes
abbrev pub verdict_good : Result (Option (Break Entry)) Fault → Bool
verdict_good (Ok None) = true
verdict_good (Ok (Some f)) = false
verdict_good (Err f) = false

-- the ring that shows a failing word is on the strip
abbrev pub ring_fits : Result (Option (Break Entry)) Fault → List ℕ → Type 0
ring_fits (Ok None) strip = Unit {0}
ring_fits (Ok (Some f)) strip = f.len ≤ length strip
ring_fits (Err f) strip = Unit {0}

-- a line of two parts with a tab between them
abbrev pub two_parts : List ℕ → List ℕ → List ℕ
two_parts word crossing = word ++ (codes "\t" ++ (crossing ++ codes "\n"))

-- a word by its code and what crosses there, and a row for each of some words, by codes from i on
abbrev pub row_text : Notation → ℕ → Entry → List ℕ
row_text notation code e = two_parts (digits (word notation.q notation.m code)) (entry_text notation.kind e)

abbrev pub rows_text : {X : Type 0} → (ℕ → X → List ℕ) → ℕ → List X → List ℕ
rows_text row i [] = []
rows_text row i (x ∷ xs) = row i x ++ rows_text row (suc i) xs

-- two names, and two presets whose kinds of charge differ
abbrev pub two_names : List ℕ → List ℕ → List ℕ
two_names name other = name ++ (codes "\t" ++ other)

abbrev pub kinds_text : List ℕ → List ℕ
kinds_text subject = subject ++ codes "\tkinds differ"
