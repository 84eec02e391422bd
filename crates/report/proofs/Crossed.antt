-- The page of crossings, from what a call found and wrote. Assumes nothing.
use Rattle.std.proofs.Common.{◌≡◌, ℕ, ◌^◌, List, map, length, take, IfSome, IsErrAnd, Ok, Err, Option, Result, sym, refl, ap, ◌∙◌, subst}
use Rattle.fault.specs.declared.Fault.{Fault}
use Rattle.charge.specs.Groups.{Kind}
use Rattle.criterion.specs.Answers.{unless_refused}
use Rattle.preset.specs.Sending.{Sending}
use Rattle.preset.specs.declared.header.Header.{Header}
use Rattle.console.specs.Shows.{unless_memory}
use Rattle.console.specs.declared.failure.ShowError.{ShowError}
use Rattle.console.specs.declared.failure.ShowError.TheVariants.{Refused}
use Rattle.bench.specs.declared.state.Break.{Break}
use Rattle.bench.specs.Benches.{label_of, total_before, total_after, crossings_of}
use Rattle.bench.specs.Verdicts.{lent}
use Rattle.report.specs.declared.report_line.ReportLine.{ReportLine}
use Rattle.preset_bench.proofs.Counts.{count-is}
use Rattle.preset_bench.specs.Finds.{JudgeFinds, preset_bench, preset_found}
use Rattle.report.specs.Finds.{answer_good}
use Rattle.report.specs.ReportLines.{LineIs}
use Rattle.report.specs.Reports.{ToldCrossings, crossing_notation}
use Rattle.report.specs.Texts.{Notation, row_text, rows_text}

pub page-told : {C : Type 0} (K : Kind C) (S : Sending C) (room cells : ℕ) (h : Header) (letters : List ℕ) (charges old new : List C) (strip ring : List ℕ) (o : Option (Break C))
    → JudgeFinds (preset_bench K h letters charges) (preset_found K h letters charges room cells) (lent old strip) (lent new ring) (Ok o)
    → (notation : Notation) → notation ≡ crossing_notation S.named h → (l : ReportLine) → LineIs (rows_text (λ i x. row_text notation i (S.entry x)) 0 (take (notation.q ^ notation.m) new)) (answer_good o) l
    → ToldCrossings K S room cells h letters charges (Ok l)
page-told K S room cells h letters charges old new strip ring o finds notation same l is =
    let b = preset_bench K h letters charges in
    let to = crossing_notation S.named h in
    let found = preset_found K h letters charges room cells in
    let count = count-is K (label_of b) (total_before b) (total_after b) found o finds.is.said in
    record {
      answer = Ok o;
      is = finds.is;
      crossed = take (to.q ^ to.m) new;
      meant = ap (λ (n : ℕ). map K.means (take n new)) (sym count) ∙ finds.crossed.0;
      page = record {
        text_is = is.text_is ∙ ap (λ (s : Notation). rows_text (λ i x. row_text s i (S.entry x)) 0 (take (s.q ^ s.m) new)) same;
        good_is = is.good_is;
      };
    }

-- what is told where judging is refused
pub refusal-told : {C : Type 0} (K : Kind C) (S : Sending C) (room cells : ℕ) (h : Header) (letters : List ℕ) (charges old new : List C) (strip ring : List ℕ) (f : Fault)
    → JudgeFinds (preset_bench K h letters charges) (preset_found K h letters charges room cells) (lent old strip) (lent new ring) (Err f)
    → ToldCrossings K S room cells h letters charges (Err f)
refusal-told K S room cells h letters charges old new strip ring f finds = record {
  answer = Err f;
  is = finds.is;
  crossed = take (length (unless_refused (preset_found K h letters charges room cells) (crossings_of (preset_bench K h letters charges)))) new;
  meant = finds.crossed.0;
  page = refl;
}

-- an error that is a refusal
pub refused_is : {X : Type 0} (P : Result X Fault → Type 0) (r : Result X ShowError) (f : Fault) → IsErrAnd r (λ e. e ≡ Refused f) → P (Err f) → IfSome (unless_memory r) P
refused_is P (Ok x) f is h = absurd is
refused_is {X} P (Err e) f is h = subst (λ (x : ShowError). IfSome (unless_memory {X = X} (Err x)) P) (sym is) h
