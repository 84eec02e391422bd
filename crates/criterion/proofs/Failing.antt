-- The first number that passes a test, and whether a word fails. Assumes nothing.
use Rattle.std.proofs.Common.{◌≡◌, ℕ, suc, ◌+◌, ◌-◌, ◌*◌, ◌/◌, ◌%◌, ◌^◌, ◌<◌, ◌≤◌, Bool, true, false, cond, not, List, [], ◌∷◌, map, length, get_or, take, drop, Some, None, Decides, Option, sym, refl, ap, ◌∙◌, subst, ap₂, mod-lt, div-lt_iff_lt-mul, add-one, arith, take_at}
use Rattle.charge.specs.Groups.{Kind, minus}
use Rattle.automaton.specs.Words.{word, table}
use Rattle.criterion.specs.Labelled.{LabelList, label_at, Labelled}
use Rattle.automaton.proofs.Codes.{length-word, drop-word, code-word}
use Rattle.criterion.specs.Search.{first_of, J, crossings, fails, failing}
use Rattle.criterion.proofs.Sizes.{some-letters, one_more, code-within, heads-past}
use Rattle.criterion.proofs.Prefixes.{filled_at, filled-count}

-- the first number below n, from i on, that passes a test
abbrev first_below : (ℕ → Bool) → ℕ → ℕ → Option ℕ
first_below test n i = first_of test i (n - i)

module _ (test : ℕ → Bool) (n i : ℕ) where
  first_more : i < n → test i ≡ false → first_below test n i ≡ first_below test n (i + 1)
  first_more h not-here =
      let one : n - i ≡ suc (n - (i + 1)) = omega arith in
      ap (first_of test i) one
      ∙ ap (λ b. cond b (Some i) (first_of test (suc i) (n - (i + 1)))) not-here
      ∙ ap (λ t. first_of test t (n - (i + 1))) (sym (add-one i))

  first-stop : i < n → test i ≡ true → first_below test n i ≡ Some i
  first-stop h passes =
      let one : n - i ≡ suc (n - (i + 1)) = omega arith in
      ap (first_of test i) one
      ∙ ap (λ b. cond b (Some i) (first_of test (suc i) (n - (i + 1)))) passes

  first_none : n ≤ i → first_below test n i ≡ None
  first_none h =
      let none : n - i ≡ 0 = omega arith in
      ap (first_of test i) none

-- two tests of one fact are the same
pub decides-same : (a b : Bool) {P : Type 0} → Decides a P → Decides b P → a ≡ b
decides-same true b x y = sym (y.1 (x.0 refl))
decides-same false true x y = x.1 (y.0 refl)
decides-same false false x y = refl

module _ {C : Type 0} (K : Kind C) (d : LabelList K.group.Carrier) (labelled : Labelled d) (c : ℕ) where
  take_head : take (d.m - 1) (word d.q d.m c) ≡ word d.q (d.m - 1) (c / d.q)
  take_head =
      ap (λ n. take (d.m - 1) (word d.q n c)) (sym (one_more d labelled))
      ∙ take_at (word d.q (d.m - 1) (c / d.q)) (c % d.q ∷ []) (d.m - 1) (length-word d.q (d.m - 1) (c / d.q))

  drop-first : drop 1 (word d.q d.m c) ≡ word d.q (d.m - 1) (c % d.q ^ (d.m - 1))
  drop-first =
      ap (λ n. drop 1 (word d.q n c)) (sym (one_more d labelled))
      ∙ drop-word d.q (some-letters d labelled) (d.m - 1) c

  -- the test of what stands in a strip of crossings is the test of the word
  pub fails-at : (strip : List C) (head : ℕ) (first last crosses : C) (same : Bool) →
      map K.means strip ≡ crossings K 0 d →
      c / d.q ≡ head → head < length strip →
      first ≡ get_or strip head first → last ≡ get_or strip (c % length strip) last →
      K.means crosses ≡ minus K.group (K.means first) (K.means last) →
      Decides same (get_or d.charges c K.group.zero ≡ K.means crosses) →
      not same ≡ fails K 0 d (word d.q d.m c)
  fails-at strip head first last crosses same filled is-head below at_first at_last crosses-is same-is =
      let heads = length strip in
      let count : heads ≡ d.q ^ (d.m - 1) = filled-count K d strip filled in
      let G = K.group in
      let w = word d.q d.m c in
      let at : ℕ → G.Carrier = λ v. J K 0 d (word d.q (d.m - 1) v) in
      let some : 0 < d.q = some-letters d labelled in
      let within : c < d.q ^ d.m =
      code-within d labelled c heads d.q count refl ((div-lt_iff_lt-mul some).0 (subst (λ v. v < heads) (sym is-head) below)) in
      let all : map K.means strip ≡ table heads at = filled ∙ ap (λ n. table n at) (sym count) in
      let prefix_is : K.means first ≡ J K 0 d (take (d.m - 1) w) =
      filled_at K.means at strip heads head first all below at_first
      ∙ ap at (sym is-head)
      ∙ ap (J K 0 d) (sym take_head) in
      let rest_is : K.means last ≡ J K 0 d (drop 1 w) =
      filled_at K.means at strip heads (c % heads) last all (mod-lt c (omega arith)) at_last
      ∙ ap (λ n. at (c % n)) count
      ∙ ap (J K 0 d) (sym drop-first) in
      let of_word : get_or d.charges c G.zero ≡ label_at G d w =
      ap (λ t. get_or d.charges t G.zero) (sym (code-word d.q some d.m c within)) in
      let both : K.means crosses ≡ minus G (J K 0 d (take (d.m - 1) w)) (J K 0 d (drop 1 w)) = crosses-is ∙ ap₂ (minus G) prefix_is rest_is in
      ap not (decides-same same _
      (subst (λ y. Decides same (label_at G d w ≡ y)) both (subst (λ x. Decides same (x ≡ K.means crosses)) of_word same-is))
      (K.decides (label_at G d w) (minus G (J K 0 d (take (d.m - 1) w)) (J K 0 d (drop 1 w)))))

-- the search from code i on
abbrev pub failing_from : {C : Type 0} → (K : Kind C) → LabelList K.group.Carrier → ℕ → Option ℕ
failing_from K d i = first_below (λ c. fails K 0 d (word d.q d.m c)) (d.q ^ d.m) i

-- one word of the search, whose test answers b
module _ {C : Type 0} (K : Kind C) (d : LabelList K.group.Carrier) (labelled : Labelled d) (heads q head last c : ℕ) (b : Bool)
    (count : heads ≡ d.q ^ (d.m - 1)) (same-q : q ≡ d.q) (is : c ≡ head * q + last) (below : c < heads * q)
    (so_far : failing K 0 d ≡ failing_from K d (head * d.q + last)) (tested : b ≡ fails K 0 d (word d.q d.m c)) where
  here : head * d.q + last ≡ c
  here = sym (is ∙ ap (λ t. head * t + last) same-q)

  pub search_more : b ≡ false → failing K 0 d ≡ failing_from K d (head * d.q + (last + 1))
  search_more h =
      so_far
      ∙ ap (failing_from K d) here
      ∙ first_more (λ t. fails K 0 d (word d.q d.m t)) (d.q ^ d.m) c (code-within d labelled c heads q count same-q below) (sym tested ∙ h)
      ∙ ap (failing_from K d) (omega (arith, here))

  pub search-stop : b ≡ true → Some c ≡ failing K 0 d
  search-stop h = sym
      (so_far
      ∙ ap (failing_from K d) here
      ∙ first-stop (λ t. fails K 0 d (word d.q d.m t)) (d.q ^ d.m) c (code-within d labelled c heads q count same-q below) (sym tested ∙ h))

-- all words are searched
pub search_end : {C : Type 0} (K : Kind C) (d : LabelList K.group.Carrier) (labelled : Labelled d) (head : ℕ) → d.q ^ (d.m - 1) ≤ head →
    failing K 0 d ≡ failing_from K d (head * d.q) → None ≡ failing K 0 d
search_end K d labelled head past so_far =
    sym (so_far ∙ first_none (λ t. fails K 0 d (word d.q d.m t)) (d.q ^ d.m) (head * d.q) (heads-past d labelled head past))
