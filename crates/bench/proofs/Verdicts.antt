-- No word of a label fails exactly when every ring keeps its total, or has one total. Assumes nothing.
use Rattle.std.proofs.Common.{ℕ, ◌+◌, ◌-◌, ◌<◌, ◌≤◌, max, ◌↔◌, sym, ◌∙◌, arith}
use Rattle.charge.specs.Groups.{Group}
use Rattle.charge.proofs.Sums.{same_from-minus, minus_from-same}
use Rattle.automaton.specs.Meanings.{Local, Weights, next, total}
use Rattle.criterion.proofs.Statements.{Holds}
use Rattle.criterion.proofs.Criterion.{criterion}
use Rattle.bench.specs.Labels.{rule_label, two_label}
use Rattle.bench.specs.Laws.{KeepsTotal, SameTotals}
use Rattle.bench.proofs.Gains.{step_gains, two_gains}

module _ (G : Group) (z : ℕ) where
  -- a rule under a density, whose label is on words of n + k - 1 letters
  pub verdict : (r : Local) (d : Weights G.Carrier) → r.l < r.n → 1 ≤ d.k → z < r.q →
      Holds G (rule_label G r d) z r.q (r.n + d.k - 1) ↔ KeepsTotal G r d
  verdict r d inside wide some =
      let gains = step_gains G r d inside in
      let both = criterion G z (rule_label G r d) r.q (r.n + d.k - 1) some (omega arith) in (
        λ holds c long below. same_from-minus G (total G d (next r c)) (total G d c) (sym (gains c long) ∙ both.0 holds c long below),
        λ keeps. both.1 (λ c long below. gains c long ∙ minus_from-same G (total G d (next r c)) (total G d c) (keeps c long below)),
      )

  -- two densities, whose label is on words of as many letters as the larger width has
  pub comparison : (d e : Weights G.Carrier) → 1 ≤ max d.k e.k → z < d.q →
      Holds G (two_label G d e) z d.q (max d.k e.k) ↔ SameTotals G d e
  comparison d e wide some =
      let gains = two_gains G d e in
      let both = criterion G z (two_label G d e) d.q (max d.k e.k) some wide in (
        λ holds c long below. same_from-minus G (total G d c) (total G e c) (sym (gains c) ∙ both.0 holds c long below),
        λ same. both.1 (λ c long below. gains c ∙ minus_from-same G (total G d c) (total G e c) (same c long below)),
      )
