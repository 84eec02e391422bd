-- The crossing at a site, by the code of its cells. Assumes nothing.
use Rattle.std.proofs.Common.{◌≡◌, ℕ, ◌+◌, ◌-◌, ◌^◌, ◌<◌, ◌≤◌, List, length, get_or, ap, ◌∙◌, subst, arith}
use Rattle.charge.specs.Groups.{Kind}
use Rattle.automaton.specs.Words.{Letters, Word, code, word, window, cell, before}
use Rattle.automaton.specs.Meanings.{Local, Weights}
use Rattle.automaton.proofs.Codes.{code_lt, word-code}
use Rattle.automaton.proofs.Rings.{get_or-table, ring-word}
use Rattle.criterion.specs.Search.{padding, J, crossings}
use Rattle.bench.specs.Labels.{rule_label_list}
use Rattle.player.specs.Calls.{crossing_at}

module _ {C : Type 0} (K : Kind C) (r : Local) (d : Weights K.group.Carrier) where
  pub crossing-code : (q : ℕ) (c : List ℕ) (i : ℕ) → q ≡ r.q → 0 < q → 1 ≤ length c → Letters q c →
      get_or (crossings K padding (rule_label_list K.group r d)) (code q (window (r.n + d.k - 2) (cell c) (before (length c) r.l i))) K.group.zero
      ≡ crossing_at K r d c i
  crossing-code q c i same some long below =
      let label = rule_label_list K.group r d in
      let m : ℕ = label.m - 1 in
      let w : List ℕ = window (r.n + d.k - 2) (cell c) (before (length c) r.l i) in
      let rest : r.n + d.k - 2 ≡ m = omega arith in
      let is : Word r.q m w = subst (λ (p : ℕ × ℕ). Word p.0 p.1 w) (λ j. (same j, rest j)) (ring-word q (r.n + d.k - 2) c long below (before (length c) r.l i)) in
      ap (λ b. get_or (crossings K padding label) (code b w) K.group.zero) same
      ∙ get_or-table (r.q ^ m) (λ v. J K padding label (word r.q m v)) K.group.zero (code r.q w) (code_lt r.q m w is)
      ∙ ap (J K padding label) (word-code r.q (subst (λ b. 0 < b) same some) m w is)
