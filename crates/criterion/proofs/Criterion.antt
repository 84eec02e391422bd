-- No word fails exactly when the label sums to zero on every ring. Assumes nothing.
use Rattle.std.proofs.Common.{◌≡◌, ◌⊎◌, ℕ, suc, ◌+◌, ◌-◌, ◌≤◌, List, [], ◌∷◌, ◌++◌, length, take, drop, ⊎_elim, sym, refl, ap, ◌∙◌, subst, ap₂, inl, inr, zero-add, arith, take_all, take-take}
use Rattle.std.proofs.lemmas.Bool.{cases_lt}
use Rattle.charge.specs.Groups.{Group, minus, sum_over}
use Rattle.charge.proofs.Sums.{sum_same, sum-append, sum_first, telescope, minus-both, minus_minus, neg-neg, same_from-minus}
use Rattle.automaton.specs.Words.{Letters, Word, repeated, window, cell}
use Rattle.automaton.proofs.Rings.{take-window, window_turn, cell_turn, ring-word}
use Rattle.criterion.specs.Balance.{ring_sum, crossing, Balanced, Balances, ring_a, ring_b, SumsToZero}
use Rattle.criterion.proofs.Statements.{Criterion, BreakShown}
use Rattle.criterion.proofs.Pads.{place, window_rest, window_tail, window-take, length_pad, pad-first, pad_last, word_a, word_b}

module _ (G : Group) where
  -- labels that agree on words have one sum
  pub ring_sum-same : (d e : List ℕ → G.Carrier) (q m : ℕ) → ((w : List ℕ) → Word q m w → d w ≡ e w) →
      (c : List ℕ) → 1 ≤ length c → Letters q c → ring_sum G d m c ≡ ring_sum G e m c
  ring_sum-same d e q m same c some below =
      sum_same G (λ i. d (window m (cell c) i)) (λ i. e (window m (cell c) i)) (length c)
      (λ i _. same (window m (cell c) i) (ring-word q m c some below i))

  -- with any table that balances every word, the label's sum over a ring telescopes
  pub sums_to_zero : (d T : List ℕ → G.Carrier) (q m : ℕ) → 1 ≤ m → Balances G d q m T → SumsToZero G d q m
  sums_to_zero d T q m long balances c some below =
      let s : ℕ → ℕ = cell c in
      let at : ℕ → G.Carrier = λ i. T (window (m - 1) s i) in
      sum_same G (λ i. d (window m s i)) (λ i. minus G (at i) (at (suc i))) (length c)
      (λ i _. balances (window m s i) (ring-word q m c some below i)
      ∙ ap₂ (λ v w. minus G (T v) (T w)) (take-window (m - 1) m s i (omega arith)) (window_rest m long s i))
      ∙ telescope G at (length c)
      ∙ ap (λ v. minus G (at 0) (T v)) (ap (window (m - 1) s) (sym (zero-add (length c))) ∙ window_turn (m - 1) s (length c) (cell_turn c) 0)
      ∙ G.cancel (at 0)

module _ (G : Group) (z : ℕ) where
  -- the sum over the windows that begin with z, of which J is the opposite
  abbrev pub heads : (List ℕ → G.Carrier) → ℕ → List ℕ → G.Carrier
  heads d m v = sum_over G (λ j. d (repeated z (m - 1 - j) ++ take (suc j) v)) (m - 1)

  -- what the group's laws give for the two rings
  gap : (D L X Y : G.Carrier) → minus G (G.add (G.add D L) X) (G.add L Y) ≡ G.add (minus G D (G.neg X)) (G.neg Y)
  gap D L X Y =
      ap₂ (minus G)
      (G.assoc D L X ∙ ap (G.add D) (G.comm L X) ∙ sym (G.assoc D X L))
      (G.comm L Y)
      ∙ minus-both G (G.add D X) Y L
      ∙ ap (λ t. G.add (G.add D t) (G.neg Y)) (sym (neg-neg G X))

  -- ring B of a word of one letter has no cells
  no_cells : (d : List ℕ → G.Carrier) (w : List ℕ) → length w ≡ 1 → ring_sum G d 1 (ring_b z 1 w) ≡ G.zero
  no_cells d [] size = absurd (omega arith)
  no_cells d (x ∷ []) size = refl
  no_cells d (x ∷ (y ∷ w)) size = absurd (omega arith)

  module _ (d : List ℕ → G.Carrier) (m : ℕ) (long : 1 ≤ m) where
    -- the sum over the windows that begin in v
    abbrev bodies : List ℕ → ℕ → G.Carrier
    bodies v n = sum_over G (λ i. d (window m (place z v) i)) n

    pad-sum : (v : List ℕ) → m - 1 ≤ length v → ring_sum G d m (v ++ repeated z (m - 1)) ≡ G.add (bodies v (length v)) (heads d m v)
    pad-sum v fits =
        let f : ℕ → G.Carrier = λ i. d (window m (cell (v ++ repeated z (m - 1))) i) in
        ap (sum_over G f) (length_pad z v (m - 1))
        ∙ sum-append G f (length v) (m - 1)
        ∙ ap₂ G.add
        (sum_same G f (λ i. d (window m (place z v) i)) (length v) (λ i h. ap d (pad-first z v m long fits i h)))
        (sum_same G (λ j. f (length v + j)) (λ j. d (repeated z (m - 1 - j) ++ take (suc j) v)) (m - 1) (λ j h. ap d (pad_last z v m long fits j h)))

    -- what a word lacks to be balanced is the difference of its two rings
    gap_is : (w : List ℕ) → length w ≡ m →
        minus G (ring_sum G d m (ring_a z m w)) (ring_sum G d m (ring_b z m w))
        ≡ G.add (minus G (d w) (crossing G d z m (take (m - 1) w))) (crossing G d z m (drop 1 w))
    gap_is [] size = absurd (omega arith)
    gap_is (x ∷ v) size =
        let rest : length v ≡ m - 1 = omega arith in
        let first : bodies (x ∷ v) (length (x ∷ v)) ≡ G.add (d (x ∷ v)) (bodies v (length v)) =
        sum_first G (λ i. d (window m (place z (x ∷ v)) i)) (length v)
        ∙ ap₂ G.add
        (ap d (window-take z m (x ∷ v) (omega arith) ∙ take_all m (x ∷ v) (omega arith)))
        (sum_same G (λ i. d (window m (place z (x ∷ v)) (suc i))) (λ i. d (window m (place z v) i)) (length v)
        (λ i _. ap d (window_tail z m x v i))) in
        let prefix : heads d m (x ∷ v) ≡ heads d m (take (m - 1) (x ∷ v)) =
        sum_same G (λ j. d (repeated z (m - 1 - j) ++ take (suc j) (x ∷ v))) (λ j. d (repeated z (m - 1 - j) ++ take (suc j) (take (m - 1) (x ∷ v)))) (m - 1)
        (λ j h. ap (λ t. d (repeated z (m - 1 - j) ++ t)) (sym (take-take (suc j) (m - 1) (x ∷ v) (omega arith)))) in
        ap₂ (minus G)
        (pad-sum (x ∷ v) (omega arith) ∙ ap₂ G.add first prefix)
        (pad-sum v (omega arith))
        ∙ gap (d (x ∷ v)) (bodies v (length v)) (heads d m (take (m - 1) (x ∷ v))) (heads d m v)

    -- a word is balanced if both its rings sum to zero
    balanced_from_rings : (w : List ℕ) → length w ≡ m → ring_sum G d m (ring_a z m w) ≡ G.zero →
        ring_sum G d m (ring_b z m w) ≡ G.zero → Balanced G d m (crossing G d z m) w
    balanced_from_rings w size a b =
        let J : List ℕ → G.Carrier = crossing G d z m in
        let nothing : G.add (minus G (d w) (J (take (m - 1) w))) (J (drop 1 w)) ≡ G.zero =
        sym (gap_is w size) ∙ ap₂ (minus G) a b ∙ G.cancel G.zero in
        same_from-minus G (d w) (minus G (J (take (m - 1) w)) (J (drop 1 w))) (minus_minus G (d w) (J (take (m - 1) w)) (J (drop 1 w)) ∙ nothing)

    -- the words have more than one letter, or ring B sums to zero
    several : (w : List ℕ) → length w ≡ m → (2 ≤ m) ⊎ (ring_sum G d m (ring_b z m w) ≡ G.zero)
    several w size =
        ⊎_elim (λ l. inl l)
        (λ l. let one : 1 ≡ m = omega arith in
        inr (subst (λ n. ring_sum G d n (ring_b z n w) ≡ G.zero) one (no_cells d w (size ∙ sym one))))
        (cases_lt 1 m)

  pub break_shown : BreakShown G z
  break_shown d q m w some long word fails = (
    word_a z q m w some long word,
    word_b z q m w some long word,
    λ a. (
      ⊎_elim (λ l. l) (λ b. absurd (fails (balanced_from_rings d m long w word.0 a b))) (several d m long w word.0),
      λ b. fails (balanced_from_rings d m long w word.0 a b),
    ),
  )

  pub criterion : Criterion G z
  criterion d q m some long = (
    λ holds. sums_to_zero G d (crossing G d z m) q m long holds,
    λ zero_sums w word.
        let a = word_a z q m w some long word in
        let b = word_b z q m w some long word in
        balanced_from_rings d m long w word.0 (zero_sums (ring_a z m w) (omega (arith, a.0)) a.1)
        (⊎_elim (λ l. zero_sums (ring_b z m w) (omega (arith, b.0, l)) b.1) (λ e. e) (several d m long w word.0)),
  )
