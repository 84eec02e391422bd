-- What a verdict on voices says is true of whole numbers without bounds. Assumes nothing.
use Rattle.std.proofs.Common.{ℕ, ◌+◌, ◌-◌, ◌*◌, ◌^◌, ◌<◌, max, List, ℤ, sym, ap, ◌∙◌, arith}
use Rattle.charge.specs.Kinds.{voice_group, voice_means}
use Rattle.charge.specs.Residues.{Below}
use Rattle.automaton.specs.Meanings.{next}
use Rattle.criterion.proofs.Statements.{Holds}
use Rattle.bench.specs.Labels.{rule_label, two_label}
use Rattle.bench.specs.Laws.{integers, whole, VerdictWhole, ComparisonWhole}
use Rattle.bench.proofs.Readings.{Reads, same-reads, crossed-reads, total-reads, label_end, rule_label-reads, two_label-reads}
use Rattle.bench.proofs.Verdicts.{verdict, comparison}

-- for a label of small whole numbers on words of few letters, no word fails if none fails in voices
holds-whole : (d : List ℕ → ℤ) (D : List ℕ → Below (2 ^ 64)) (z q m : ℕ) → ((w : List ℕ) → Reads (d w) (D w) label_end) → (m - 1) * label_end + (m - 1) * label_end < 2 ^ 63 →
    Holds voice_group D z q m → Holds integers d z q m
holds-whole d D z q m label room holds w word = same-reads (label w) (crossed-reads d D label_end z m label w) (omega arith) room (holds w word)

pub verdict_whole : VerdictWhole
verdict_whole r d some inside narrow-rule wide narrow range = (
  λ keeps. (verdict integers 0 r (whole d) inside wide some).0
      (holds-whole (rule_label integers r (whole d)) (rule_label voice_group r d) 0 r.q (r.n + d.k - 1) (rule_label-reads r d range) (omega arith)
      ((verdict voice_group 0 r d inside wide some).1 keeps)),
  λ keeps c long below. sym (total-reads d range (next r c)).means ∙ ap voice_means (keeps c long below) ∙ (total-reads d range c).means,
)

pub comparison_whole : ComparisonWhole
comparison_whole d e some wide narrow wide' narrow' range range' = (
  λ one. (comparison integers 0 (whole d) (whole e) (omega arith) some).0
      (holds-whole (two_label integers (whole d) (whole e)) (two_label voice_group d e) 0 d.q (max d.k e.k) (two_label-reads d e range range') (omega arith)
      ((comparison voice_group 0 d e (omega arith) some).1 one)),
  λ one c long below. sym (total-reads d range c).means ∙ ap voice_means (one c long below) ∙ (total-reads e range' c).means,
)
