-- What the lines and pages tell of presets. Assumes nothing.
use Rattle.std.specs.Prelude.{◌≡◌, ℕ, ◌+◌, ◌-◌, max, Bool, true, false, List, map, Ok, Err, Option, Result, ◌==◌}
use Rattle.fault.specs.declared.Fault.{Fault}
use Rattle.fault.specs.Answers.{plainly}
use Rattle.fault.specs.Limits.{most_words}
use Rattle.fault.specs.Refusals.{Refusal}
use Rattle.charge.specs.Groups.{Kind}
use Rattle.charge.specs.Numbers.{number_of}
use Rattle.charge.specs.declared.kind.ChargeKind.{ChargeKind}
use Rattle.automaton.specs.Meanings.{total}
use Rattle.criterion.specs.Answers.{ring_written, unless_refused}
use Rattle.criterion.specs.Search.{most_shown}
use Rattle.preset.specs.Presets.{Preset}
use Rattle.preset.specs.Sending.{Sending, delivered}
use Rattle.preset.specs.declared.header.Header.{Header}
use Rattle.bench.specs.declared.state.Break.{Break}
use Rattle.bench.specs.Benches.{total_before, total_after, crossings_of}
use Rattle.bench.specs.Laws.{VerdictRight, ComparisonRight}
use Rattle.report.specs.declared.report_line.ReportLine.{ReportLine}
use Rattle.report.specs.declared.report_line.Question.{Question}
use Rattle.report.specs.declared.report_line.Question.TheVariants.{Judge, Compare}
use Rattle.preset_bench.specs.Finds.{FoundIs, preset_bench, preset_density, preset_found, sent_found}
use Rattle.report.specs.Finds.{pair_found, answer_good}
use Rattle.report.specs.ReportLines.{LineIs}
use Rattle.report.specs.Texts.{Notation, kinds_text, two_names, refused_text, verdict_text, verdict_good, row_text, rows_text}

-- the words that a preset's label is on, and those that two densities' label is on
abbrev pub judge_notation : ChargeKind → Header → Notation
judge_notation kind h = record { kind = kind; q = h.q; m = h.n + h.k - 1 }

abbrev pub compare_notation : ChargeKind → Header → Header → Notation
compare_notation kind h h' = record { kind = kind; q = h.q; m = max h.k h'.k }

-- The line of what was found: an answer that means what was found, with the totals `first` and `second` of the ring
-- shown, and its text.
pub record VerdictLine {C : Type 0} (K : Kind C) (S : Sending C) (question : Question) (subject : List ℕ) (notation : Notation) (first second : List ℕ → K.group.Carrier)
    (Right : Result (Option (ℕ × List ℕ)) Refusal → Type 0) (found : Result (Option (ℕ × List ℕ)) Refusal) (l : ReportLine) : Type 0 where
  pub answer : Result (Option (Break C)) Fault
  pub is : FoundIs K first second Right found answer
  pub line : LineIs (verdict_text question subject notation (ring_written found) (sent_found S answer)) (verdict_good (sent_found S answer)) l

-- the line of a preset with its charges, judged on strips of some lengths
abbrev pub ToldJudgement : {C : Type 0} (K : Kind C) → Sending C → ℕ → ℕ → List ℕ → Header → List ℕ → List C → ReportLine → Type 0
ToldJudgement K S room cells name h letters charges =
    let b = preset_bench K h letters charges in
    VerdictLine K S Judge name (judge_notation S.named h) (total_before b) (total_after b) (VerdictRight b) (preset_found K h letters charges room cells)

-- the line of a preset of one kind: some charges that are sent as its entries are judged
pub record JudgeLine {C : Type 0} (K : Kind C) (S : Sending C) (name : List ℕ) (p : Preset) (l : ReportLine) : Type 0 where
  pub charges : List C
  pub sent : map S.entry charges ≡ p.entries
  pub verdict : ToldJudgement K S most_words most_shown name p.head.header p.letters charges l

-- of any kind
abbrev pub JudgedAs : ChargeKind → List ℕ → Preset → ReportLine → Type 0
JudgedAs kind = JudgeLine (delivered kind).meaning (delivered kind).sending

-- the line of some bytes under a name, by what reading them as a preset answers
abbrev pub JudgeTells : List ℕ → Result Preset Refusal → ReportLine → Type 0
JudgeTells name (Ok p) = JudgedAs p.head.kind name p
JudgeTells name (Err f) = LineIs (refused_text name f) false

-- the line of two densities with their charges, compared on strips of some lengths
abbrev pub ToldComparison : {C : Type 0} (K : Kind C) → Sending C → ℕ → ℕ → List ℕ → Header → List C → Header → List C → ReportLine → Type 0
ToldComparison K S room cells subject h charges h' others =
    VerdictLine K S Compare subject (compare_notation S.named h h')
    (total K.group (preset_density K h charges))
    (total K.group (preset_density K h' others))
    (ComparisonRight K (preset_density K h charges) (preset_density K h' others))
    (pair_found K h charges h' others room cells)

-- the line of the densities of two presets of one kind
pub record CompareLine {C : Type 0} (K : Kind C) (S : Sending C) (subject : List ℕ) (p p' : Preset) (l : ReportLine) : Type 0 where
  pub charges : List C
  pub others : List C
  pub sent : map S.entry charges ≡ p.entries
  pub others_sent : map S.entry others ≡ p'.entries
  pub verdict : ToldComparison K S most_words most_shown subject p.head.header charges p'.head.header others l

-- of two presets whose kinds are the same or not
abbrev pub ComparedAs : Bool → ChargeKind → List ℕ → Preset → Preset → ReportLine → Type 0
ComparedAs true kind = CompareLine (delivered kind).meaning (delivered kind).sending
ComparedAs false kind = λ subject p p'. LineIs (kinds_text subject) false

-- whether two kinds are the same
abbrev pub same_kind : ChargeKind → ChargeKind → Bool
same_kind kind kind' = number_of kind == number_of kind'

-- the line of two names and their bytes, by what reading them as presets answers
abbrev pub CompareTells : List ℕ → List ℕ → Result Preset Refusal → Result Preset Refusal → ReportLine → Type 0
CompareTells name other (Ok p) (Ok p') = ComparedAs (same_kind p.head.kind p'.head.kind) p.head.kind (two_names name other) p p'
CompareTells name other (Ok p) (Err f) = LineIs (refused_text other f) false
CompareTells name other (Err f) r = LineIs (refused_text name f) false

-- the words that a preset's crossings are on
abbrev pub crossing_notation : ChargeKind → Header → Notation
crossing_notation kind h = record { kind = kind; q = h.q; m = h.n + h.k - 1 - 1 }

-- a page with a row for each of some crossings, or the refusal that was answered
abbrev pub PageIs : {C : Type 0} → Sending C → Notation → List C → Result (Option (Break C)) Fault → Result ReportLine Fault → Type 0
PageIs S notation crossed (Ok found) (Ok l) = LineIs (rows_text (λ i x. row_text notation i (S.entry x)) 0 crossed) (answer_good found) l
PageIs S notation crossed (Ok found) (Err f) = ⊥
PageIs S notation crossed (Err f) (Ok l) = ⊥
PageIs S notation crossed (Err f) (Err g) = f ≡ g

-- The page of a preset with its charges, judged on strips of some lengths: charges that mean its crossings, a row each.
pub record ToldCrossings {C : Type 0} (K : Kind C) (S : Sending C) (room cells : ℕ) (h : Header) (letters : List ℕ) (charges : List C) (r : Result ReportLine Fault) : Type 0 where
  pub answer : Result (Option (Break C)) Fault
  pub is : let b = preset_bench K h letters charges in FoundIs K (total_before b) (total_after b) (VerdictRight b) (preset_found K h letters charges room cells) answer
  pub crossed : List C
  pub meant : map K.means crossed ≡ unless_refused (preset_found K h letters charges room cells) (crossings_of (preset_bench K h letters charges))
  pub page : PageIs S (crossing_notation S.named h) crossed answer r

-- the page of a preset of one kind: some charges that are sent as its entries are judged
pub record CrossingsPage {C : Type 0} (K : Kind C) (S : Sending C) (p : Preset) (r : Result ReportLine Fault) : Type 0 where
  pub charges : List C
  pub sent : map S.entry charges ≡ p.entries
  pub told : ToldCrossings K S most_words most_shown p.head.header p.letters charges r

-- of any kind
abbrev pub CrossedAs : ChargeKind → Preset → Result ReportLine Fault → Type 0
CrossedAs kind = CrossingsPage (delivered kind).meaning (delivered kind).sending

-- the page of some bytes, by what reading them as a preset answers
abbrev pub CrossingsTell : Result Preset Refusal → Result ReportLine Fault → Type 0
CrossingsTell (Ok p) = CrossedAs p.head.kind p
CrossingsTell (Err f) = λ r. plainly r ≡ Err f
