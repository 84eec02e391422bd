-- Labels by the codes of words. Assumes nothing.
use Rattle.std.proofs.Common.{◌≡◌, ℕ, ◌+◌, ◌-◌, ◌/◌, ◌%◌, ◌^◌, ◌<◌, ◌≤◌, List, get_or, take, drop, sym, refl, ap, ◌∙◌, subst, ap₂, arith}
use Rattle.charge.specs.Groups.{Group, minus}
use Rattle.automaton.specs.Words.{code, word}
use Rattle.automaton.specs.Meanings.{Local, Weights, weight}
use Rattle.automaton.proofs.Parts.{part-code}
use Rattle.automaton.proofs.Rings.{get_or-table, table-past}
use Rattle.bench.specs.declared.sizes.RuleSizes.{RuleSizes}
use Rattle.bench.specs.declared.sizes.TwoSizes.{TwoSizes}
use Rattle.bench.specs.KeptSizes.{sized_rule, sized_density, first_sized, second_sized, next_word}
use Rattle.bench.specs.Labels.{rule_label, rule_label_list, two_label, listed}

module _ {A : Type 0} (none : A) (q m : ℕ) (d : List ℕ → A) (c : ℕ) where
  listed_at : c < q ^ m → get_or (listed q m d).charges c none ≡ d (word q m c)
  listed_at h = get_or-table (q ^ m) (λ t. d (word q m t)) none c h

  listed-past : q ^ m ≤ c → get_or (listed q m d).charges c none ≡ none
  listed-past h = table-past (q ^ m) (λ t. d (word q m t)) none c h

module _ (G : Group) where
  -- the charge that a density gives a part of a word
  part-weight : (d : Weights G.Carrier) (q m j c after p : ℕ) → 1 ≤ q → q ≡ d.q → j + d.k ≤ m → after ≡ m - d.k - j → p ≡ c / (q ^ after) % (q ^ d.k) →
      weight G d (take d.k (drop j (word q m c))) ≡ get_or d.charges p G.zero
  part-weight d q m j c after p some same within rest e =
      ap (λ t. get_or d.charges t G.zero)
      (ap (λ t. code t (take d.k (drop j (word q m c)))) (sym same)
      ∙ part-code q some m d.k j c within
      ∙ ap (λ t. c / q ^ t % q ^ d.k) (sym rest)
      ∙ sym e)

  -- the charge of a label that keeps sizes, from the codes and the charges that it is computed by
  pub rule-entry : (s : RuleSizes) (r : Local) (d : Weights G.Carrier) (c next part : ℕ) (later now x : G.Carrier) → c < s.words.count →
      next ≡ next_word s r c → part ≡ c / s.weighed.after % s.weighed.count →
      later ≡ get_or d.charges next G.zero → now ≡ get_or d.charges part G.zero → x ≡ minus G later now →
      x ≡ get_or (rule_label_list G (sized_rule s r) (sized_density s d)).charges c G.zero
  rule-entry s r d c next part later now x h en ep el eo e =
      let q : ℕ = s.words.q in
      let m : ℕ = s.n + s.k - 1 in
      let inside : c < q ^ m = subst (λ m. c < q ^ m) s.whole (omega (arith, s.words.counted)) in
      let weighs = ep ∙ ap₂ (λ a b. c / a % b) s.middle.0 s.middle.1 in
      e
      ∙ ap₂ (minus G)
      (el ∙ ap (λ t. get_or d.charges t G.zero) en)
      (eo ∙ sym (part-weight (sized_density s d) q m s.l c (s.n - 1 - s.l) part (omega (arith, s.words.sizes.0)) refl (omega (arith, s.reach)) (omega (arith, s.reach)) weighs))
      ∙ sym (listed_at G.zero q m (rule_label G (sized_rule s r) (sized_density s d)) c inside)

  -- past its words such a label gives zero
  pub rule-past : (s : RuleSizes) (r : Local) (d : Weights G.Carrier) (c : ℕ) (x : G.Carrier) → s.words.count ≤ c → x ≡ G.zero →
      x ≡ get_or (rule_label_list G (sized_rule s r) (sized_density s d)).charges c G.zero
  rule-past s r d c x past is =
      let outside : s.words.q ^ (s.n + s.k - 1) ≤ c = subst (λ m. s.words.q ^ m ≤ c) s.whole (omega (arith, s.words.counted)) in
      is ∙ sym (listed-past G.zero s.words.q (s.n + s.k - 1) (rule_label G (sized_rule s r) (sized_density s d)) c outside)

  pub two-past : (s : TwoSizes) (d e : Weights G.Carrier) (c : ℕ) (x : G.Carrier) → s.words.count ≤ c → x ≡ G.zero →
      x ≡ get_or (listed s.words.q s.words.m (two_label G (first_sized s d) (second_sized s e))).charges c G.zero
  two-past s d e c x past is =
      is ∙ sym (listed-past G.zero s.words.q s.words.m (two_label G (first_sized s d) (second_sized s e)) c (omega (arith, s.words.counted)))

  pub two-entry : (s : TwoSizes) (d e : Weights G.Carrier) (c first second : ℕ) (a b x : G.Carrier) → c < s.words.count →
      first ≡ c / s.first_prefix.after % s.first_prefix.count → second ≡ c / s.second_prefix.after % s.second_prefix.count →
      a ≡ get_or d.charges first G.zero → b ≡ get_or e.charges second G.zero → x ≡ minus G a b →
      x ≡ get_or (listed s.words.q s.words.m (two_label G (first_sized s d) (second_sized s e))).charges c G.zero
  two-entry s d e c first second a b x h ef es ea eb ex =
      let q : ℕ = s.words.q in
      let m : ℕ = s.words.m in
      let some : 1 ≤ q = omega (arith, s.words.sizes.0) in
      let larger = s.larger in
      let weighs = ef ∙ ap₂ (λ a b. c / a % b) s.prefixes.0 s.prefixes.1 in
      let less = es ∙ ap₂ (λ a b. c / a % b) s.prefixes.2 s.prefixes.3 in
      ex
      ∙ ap₂ (minus G)
      (ea ∙ sym (part-weight (first_sized s d) q m 0 c (m - s.first) first some refl (omega arith) (omega arith) weighs))
      (eb ∙ sym (part-weight (second_sized s e) q m 0 c (m - s.second) second some refl (omega arith) (omega arith) less))
      ∙ sym (listed_at G.zero q m (two_label G (first_sized s d) (second_sized s e)) c (omega (arith, s.words.counted)))
