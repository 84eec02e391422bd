-- Lines of presets, from what is told of their charges. Assumes nothing.
use Rattle.std.proofs.Common.{◌≡◌, ℕ, List, map, Result, subst}
use Rattle.fault.specs.declared.Fault.{Fault}
use Rattle.charge.specs.Groups.{Kind}
use Rattle.preset.specs.Presets.{Preset}
use Rattle.preset.specs.Sending.{Sending}
use Rattle.report.specs.declared.report_line.ReportLine.{ReportLine}
use Rattle.fault.specs.Limits.{most_words}
use Rattle.criterion.specs.Search.{most_shown}
use Rattle.report.specs.Reports.{ToldJudgement, JudgeLine, ToldComparison, CompareLine, ToldCrossings, CrossingsPage}

module _ {C : Type 0} (K : Kind C) (S : Sending C) where
  pub judge-line : (name : List ℕ) (p : Preset) (charges : List C) (crossings cells : ℕ) → crossings ≡ most_words → cells ≡ most_shown → map S.entry charges ≡ p.entries
      → (l : ReportLine) → ToldJudgement K S crossings cells name p.head.header p.letters charges l → JudgeLine K S name p l
  judge-line name p charges crossings cells e f sent l told = record {
    charges = charges;
    sent = sent;
    verdict = subst (λ (n : ℕ). ToldJudgement K S most_words n name p.head.header p.letters charges l) f (subst (λ (n : ℕ). ToldJudgement K S n cells name p.head.header p.letters charges l) e told);
  }

  pub compare-line : (subject : List ℕ) (p p' : Preset) (charges others : List C) (crossings cells : ℕ) → crossings ≡ most_words → cells ≡ most_shown
      → map S.entry charges ≡ p.entries → map S.entry others ≡ p'.entries
      → (l : ReportLine) → ToldComparison K S crossings cells subject p.head.header charges p'.head.header others l → CompareLine K S subject p p' l
  compare-line subject p p' charges others crossings cells e f sent sent' l told = record {
    charges = charges;
    others = others;
    sent = sent;
    others_sent = sent';
    verdict = subst (λ (n : ℕ). ToldComparison K S most_words n subject p.head.header charges p'.head.header others l) f (subst (λ (n : ℕ). ToldComparison K S n cells subject p.head.header charges p'.head.header others l) e told);
  }

  pub crossings-page : (p : Preset) (charges : List C) (room cells : ℕ) → room ≡ most_words → cells ≡ most_shown → map S.entry charges ≡ p.entries
      → (r : Result ReportLine Fault) → ToldCrossings K S room cells p.head.header p.letters charges r → CrossingsPage K S p r
  crossings-page p charges room cells e f sent r told = record {
    charges = charges;
    sent = sent;
    told = subst (λ (n : ℕ). ToldCrossings K S most_words n p.head.header p.letters charges r) f (subst (λ (n : ℕ). ToldCrossings K S n cells p.head.header p.letters charges r) e told);
  }
