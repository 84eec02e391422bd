-- What the search says of all rings, from the criterion. Assumes nothing.
use Rattle.std.proofs.Common.{◌≡◌, ℕ, zero, suc, ◌+◌, ◌-◌, ◌^◌, ◌<◌, ◌↔◌, Bool, true, false, cond, not, List, take, drop, Some, None, Option, sym, refl, ap, ◌∙◌, add-zero, arith}
use Rattle.std.proofs.lemmas.Bool.{true≢false, not-false, cond_both}
use Rattle.std.specs.Option.{option_map}
use Rattle.charge.specs.Groups.{Kind, minus}
use Rattle.automaton.specs.Words.{Word, word}
use Rattle.criterion.specs.Labelled.{LabelList, label_at, Labelled}
use Rattle.automaton.proofs.Codes.{word-word, every-word}
use Rattle.criterion.specs.Balance.{ring_sum, Balanced, ring_a, ring_b, SumsToZero}
use Rattle.criterion.proofs.Statements.{Holds}
use Rattle.criterion.specs.Search.{first_of, J, fails, failing, sums_to_zero, shown}
use Rattle.criterion.specs.Laws.{Exact, BreakingRing, Shows, LabelLaw}
use Rattle.criterion.proofs.Criterion.{criterion, break_shown}
use Rattle.criterion.proofs.Uniqueness.{crossing_only, crossing_zero}
use Rattle.criterion.proofs.Sizes.{some-letters}

module _ (test : ℕ → Bool) where
  -- none is first exactly when none passes
  first_none : (i n : ℕ) → first_of test i n ≡ None → (t : ℕ) → t < n → test (i + t) ≡ false
  first_none i zero e t h = absurd (omega arith)
  first_none i (suc n) e t h = go (test i) refl e (first_none (suc i) n) t h
    where
      go : (b : Bool) → test i ≡ b → cond b (Some i) (first_of test (suc i) n) ≡ None →
          (first_of test (suc i) n ≡ None → (t : ℕ) → t < n → test (suc i + t) ≡ false) → (t : ℕ) → t < suc n → test (i + t) ≡ false
      go true is e after t h = absurd (grind arith)
      go false is e after zero h = ap test (add-zero i) ∙ is
      go false is e after (suc t) h = ap test (omega arith) ∙ after e t (omega arith)

  none_first : (i n : ℕ) → ((t : ℕ) → t < n → test (i + t) ≡ false) → first_of test i n ≡ None
  none_first i zero all = refl
  none_first i (suc n) all =
      ap (λ b. cond b (Some i) (first_of test (suc i) n)) (ap test (sym (add-zero i)) ∙ all 0 (omega arith))
      ∙ none_first (suc i) n (λ t h. ap test (omega arith) ∙ all (suc t) (omega arith))

  -- what is first passes
  first_passes : (i n c : ℕ) → first_of test i n ≡ Some c → test c ≡ true
  first_passes i zero c e = absurd (grind arith)
  first_passes i (suc n) c e = go (test i) refl e (first_passes (suc i) n c)
    where
      go : (b : Bool) → test i ≡ b → cond b (Some i) (first_of test (suc i) n) ≡ Some c → (first_of test (suc i) n ≡ Some c → test c ≡ true) → test c ≡ true
      go true is e after = let same : i ≡ c = grind arith in ap test (sym same) ∙ is
      go false is e after = after e

module _ {C : Type 0} (K : Kind C) (z : ℕ) (d : LabelList K.group.Carrier) (labelled : Labelled d) (some : z < d.q) where
  abbrev label : List ℕ → K.group.Carrier
  label = label_at K.group d

  abbrev Even : List ℕ → Type 0
  Even w = Balanced K.group label d.m (J K z d) w

  even_from : (w : List ℕ) → fails K z d w ≡ false → Even w
  even_from w e = (K.decides (label w) (minus K.group (J K z d (take (d.m - 1) w)) (J K z d (drop 1 w)))).0 (not-false _ e)

  from_even : (w : List ℕ) → Even w → fails K z d w ≡ false
  from_even w even = ap not ((K.decides (label w) (minus K.group (J K z d (take (d.m - 1) w)) (J K z d (drop 1 w)))).1 even)

  abbrev test : ℕ → Bool
  test c = fails K z d (word d.q d.m c)

  -- a word by its code, with the ring that shows it
  abbrev found : ℕ → ℕ × List ℕ
  found c = (c, shown K z d (word d.q d.m c))

  -- no word fails
  holds : failing K z d ≡ None → Holds K.group label z d.q d.m
  holds e w is =
      (every-word d.q (some-letters d labelled) Even d.m).0
      (λ c h. even_from (word d.q d.m c) (ap test (omega arith) ∙ first_none test 0 (d.q ^ d.m) e c h))
      w is

  holds_none : Holds K.group label z d.q d.m → failing K z d ≡ None
  holds_none all =
      none_first test 0 (d.q ^ d.m)
      (λ t h. from_even (word d.q d.m (0 + t)) (all (word d.q d.m (0 + t)) (word-word d.q (some-letters d labelled) d.m (0 + t))))

  exact : Exact K z d
  exact = (
    (λ e. both.0 (holds (unmapped (failing K z d) e))),
    (λ sums. ap (option_map found) (holds_none (both.1 sums))),
  )
    where
      both : Holds K.group label z d.q d.m ↔ SumsToZero K.group label d.q d.m
      both = criterion K.group z label d.q d.m some labelled.sizes.2

      unmapped : (o : Option ℕ) → option_map found o ≡ None → o ≡ None
      unmapped None e = refl
      unmapped (Some c) e = absurd (grind arith)

  breaks : (w : List ℕ) → Word d.q d.m w → (Even w → ⊥) → BreakingRing K z d (shown K z d w)
  breaks w is uneven =
      let rings = break_shown K.group z label d.q d.m w some labelled.sizes.2 is uneven in
      let decided = K.decides (ring_sum K.group label d.m (ring_a z d.m w)) K.group.zero in
      cond_both (sums_to_zero K d (ring_a z d.m w)) (ring_b z d.m w) (ring_a z d.m w) (BreakingRing K z d)
      (λ is_zero.
      let B = rings.2 (decided.0 is_zero) in
      (omega (arith, B.0, rings.1.0), omega (arith, rings.1.0), rings.1.1, B.1))
      (λ not-zero. (
        omega (arith, labelled.sizes.2, rings.0.0),
        omega (arith, rings.0.0),
        rings.0.1,
        λ e. true≢false (sym (decided.1 e) ∙ not-zero),
      ))

  shows : (o : Option ℕ) → failing K z d ≡ o → Shows K z d (option_map found o)
  shows None e =
      let all = holds e in
      (all, crossing_zero K.group z label d.q d.m some labelled.sizes.2 all, λ T balances nothing v is. crossing_only K.group z label T d.q d.m some balances nothing v is)
  shows (Some c) e =
      breaks (word d.q d.m c) (word-word d.q (some-letters d labelled) d.m c)
      (λ even. true≢false (sym (first_passes test 0 (d.q ^ d.m) c e) ∙ from_even (word d.q d.m c) even))

  pub label_law : LabelLaw K z d
  label_law = (exact, shows (failing K z d) refl)
