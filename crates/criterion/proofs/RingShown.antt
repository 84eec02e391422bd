-- The ring that shows a failing word, as it is computed. Assumes nothing.
use Rattle.std.proofs.Common.{◌≡◌, ℕ, ◌+◌, ◌-◌, ◌*◌, ◌≤◌, Bool, cond, List, ◌++◌, length, take, drop, replicate, Ok, Err, Decides, Result, sym, ap, ◌∙◌, subst, ap₂, arith}
use lib.Seq.{take-append-add}
use Rattle.std.proofs.lemmas.List.{drop-replicate, take-replicate, take_rest}
use Rattle.fault.specs.Answers.{and_then, at_front}
use Rattle.fault.specs.Refusals.{Refusal}
use Rattle.charge.specs.Groups.{Kind}
use Rattle.automaton.specs.Words.{Letters, word, repeated}
use Rattle.automaton.specs.Meanings.{total}
use Rattle.criterion.specs.Labelled.{LabelList, Labelled, label_at, label_weights}
use Rattle.automaton.specs.Making.{ring_checked}
use Rattle.automaton.proofs.Codes.{length-word, word-word}
use Rattle.automaton.proofs.Passes.{ring_ready}
use Rattle.automaton.proofs.Steps.{total_windows}
use Rattle.criterion.specs.Balance.{ring_sum, ring_a}
use Rattle.criterion.specs.Search.{sums_to_zero, shown}
use Rattle.criterion.proofs.Failing.{decides-same}
use Rattle.criterion.proofs.Pads.{word_a}
use Rattle.criterion.proofs.Sizes.{some-letters}

module _ {C : Type 0} (K : Kind C) (d : LabelList K.group.Carrier) where
  -- the total of a ring that is no refusal is the sum of its labels
  module _ (ring : List ℕ) (some : 1 ≤ length ring) (most : length ring ≤ 4096) (below : Letters d.q ring) where
    abbrev answer : Result K.group.Carrier Refusal
    answer = and_then (ring_checked d.q (length ring) ring) (λ c. Ok (total K.group (label_weights d) c))

    total-is : answer ≡ Ok (ring_sum K.group (label_at K.group d) d.m ring)
    total-is =
        ap (λ t. and_then t (λ c. Ok (total K.group (label_weights d) c)))
        (ring_ready d.q (length ring) ring some most (omega arith) below)
        ∙ ap Ok (total_windows K.group (label_weights d) ring)

    pub not-refused : (f : Refusal) → Err f ≡ answer → ⊥
    not-refused f e = let clash : Err f ≡ Ok (ring_sum K.group (label_at K.group d) d.m ring) = e ∙ total-is in grind arith

    pub zero-tested : (sum nothing : C) (same : Bool) → Ok (K.means sum) ≡ answer → K.means nothing ≡ K.group.zero →
        Decides same (K.means sum ≡ K.means nothing) → same ≡ sums_to_zero K d ring
    zero-tested sum nothing same e is_zero tested =
        let sum_is : K.means sum ≡ ring_sum K.group (label_at K.group d) d.m ring = grind (arith, e, total-is) in
        decides-same same _
        (subst (λ y. Decides same (ring_sum K.group (label_at K.group d) d.m ring ≡ y)) is_zero
        (subst (λ x. Decides same (x ≡ K.means nothing)) sum_is tested))
        (K.decides (ring_sum K.group (label_at K.group d) d.m ring) K.group.zero)

-- the word of code c at the front of 23 zeros, cut to the length of ring A
module _ {C : Type 0} (K : Kind C) (d : LabelList K.group.Carrier) (labelled : Labelled d) (c q m : ℕ) (cells : List ℕ)
    (same-q : q ≡ d.q) (same-m : m ≡ d.m) (written : cells ≡ at_front (word q m c) (replicate 23 0)) where
  abbrev cut : List ℕ
  cut = take (2 * m - 1) cells

  is-ring_a : cut ≡ ring_a 0 d.m (word d.q d.m c)
  is-ring_a =
      let w : List ℕ = word q m c in
      let zeros : drop (length w) (replicate {A = ℕ} 23 0) ≡ replicate (23 - m) 0 =
      drop-replicate (length w) 23 0 ∙ ap (λ n. replicate (23 - n) 0) (length-word q m c) in
      let parts : 2 * m - 1 ≡ length w + (m - 1) = omega (arith, length-word q m c, labelled.sizes.2) in
      ap (take (2 * m - 1)) (written ∙ ap (λ t. w ++ t) zeros)
      ∙ ap (λ n. take n (w ++ replicate (23 - m) 0)) parts
      ∙ take-append-add w (replicate (23 - m) 0) (m - 1)
      ∙ ap (λ t. w ++ t) (take-replicate {X = ℕ} (m - 1) (23 - m) 0 (omega (arith, labelled.sizes.3)))
      ∙ ap₂ (λ a b. word a b c ++ repeated 0 (b - 1)) same-q same-m

  pub cut_fits : ((1 ≤ length cut) × (length cut ≤ 4096)) × Letters d.q cut
  cut_fits =
      let some = some-letters d labelled in
      let whole = word-word d.q some d.m c in
      let is = word_a 0 d.q d.m (word d.q d.m c) some labelled.sizes.2 whole in
      let size : length cut ≡ 2 * d.m - 1 = ap length is-ring_a ∙ is.0 in
      ((omega (arith, labelled.sizes.2), omega (arith, labelled.sizes.3)), subst (Letters d.q) (sym is-ring_a) is.1)

  -- the ring that is taken, by what ring A sums to
  module _ (b : Bool) (tested : ◌≡◌ {A = Result Bool Refusal} (Ok b) (Ok (sums_to_zero K d cut))) where
    shown-is : cond b (drop 1 cut) cut ≡ shown K 0 d (word d.q d.m c)
    shown-is =
        let same : b ≡ sums_to_zero K d cut = grind (arith, tested) in
        ap₂ (λ t a. cond t (drop 1 a) a) (same ∙ ap (sums_to_zero K d) is-ring_a) is-ring_a

    pub shown-taken : cond b (take (length cut - 1) (drop 1 cut)) cut ≡ shown K 0 d (word d.q d.m c)
    shown-taken = ap (λ t. cond b t cut) (take_rest cut 1) ∙ shown-is

-- what the copy of a ring says, said of the ring that it is
pub copied : (ring is strip after : List ℕ) (n : ℕ) → ring ≡ is → n ≡ length ring → after ≡ at_front ring strip →
    ◌≡◌ {A = Result ℕ Refusal} (Ok n) (Ok (length is)) × (after ≡ at_front is strip)
copied ring is strip after n same answer all = (ap Ok (answer ∙ ap length same), all ∙ ap (λ t. at_front t strip) same)
