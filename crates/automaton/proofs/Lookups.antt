-- Reading what is looked up. Assumes nothing.
use Rattle.std.proofs.Common.{◌≡◌, ℕ, zero, suc, ◌+◌, ◌-◌, ◌/◌, ◌%◌, ◌^◌, ◌<◌, ◌≤◌, cond, eqb, List, [], ◌∷◌, map, length, get_or, take, sym, refl, ap, ◌∙◌, arith, get_or-take, ne_eqb}
use native.Mathlib.Decide.{dec_lt}
use lib.ListN.{length-map, get_or-map}
use Rattle.std.proofs.lemmas.List.{get_or_past, get_or_default}
use Rattle.charge.specs.Groups.{Kind}
use Rattle.automaton.specs.Words.{word, table}
use Rattle.automaton.specs.Making.{lookup_rule, letter_sum, table_density, pattern_density}
use Rattle.automaton.specs.Lookups.{letter_sum_push}
use Rattle.automaton.proofs.Rings.{get_or-table, table-past, window_same}

-- a table read at a code, past its end too
pub table_at : {X : Type 0} (none : X) (size : ℕ) (xs : List X) (c : ℕ) → length xs ≤ size → get_or (table size (λ i. get_or xs i none)) c none ≡ get_or xs c none
table_at none size xs c exact =
    elim (dec_lt c size) [
      | yes h ↦ get_or-table size (λ i. get_or xs i none) none c h
      | no h ↦ table-past size (λ i. get_or xs i none) none c (omega arith) ∙ sym (get_or_past xs c none (omega arith))
    ]

-- the table of a front is the table of the whole
pub table-front : {X : Type 0} (none : X) (size : ℕ) (xs : List X) → table size (λ i. get_or (take size xs) i none) ≡ table size (λ i. get_or xs i none)
table-front none size xs = window_same size (λ i. get_or (take size xs) i none) (λ i. get_or xs i none) 0 0 (λ t h. get_or-take size xs (0 + t) none (omega arith))

-- a table of charges read at a code
entry_at : {C : Type 0} (K : Kind C) (xs : List C) (c : ℕ) (x : C) → c < length xs → x ≡ get_or xs c x → K.means x ≡ get_or (map K.means xs) c K.group.zero
entry_at K xs c x h is =
    ap K.means is ∙ sym (get_or-map K.means xs c x) ∙ get_or_default (map K.means xs) c (K.means x) K.group.zero (omega (arith, length-map xs K.means))

entry_past : {C : Type 0} (K : Kind C) (xs : List C) (c : ℕ) → length xs ≤ c → get_or (map K.means xs) c K.group.zero ≡ K.group.zero
entry_past K xs c h = get_or_past (map K.means xs) c K.group.zero (omega (arith, length-map xs K.means))

pub entry_read : {C : Type 0} (K : Kind C) (xs : List C) (c : ℕ) (x : C) → (c < length xs → x ≡ get_or xs c x) → (length xs ≤ c → K.means x ≡ K.group.zero) →
    K.means x ≡ get_or (map K.means xs) c K.group.zero
entry_read K xs c x inside past =
    elim (dec_lt c (length xs)) [
      | yes h ↦ entry_at K xs c x h (inside h)
      | no h ↦ past (omega arith) ∙ sym (entry_past K xs c (omega arith))
    ]

take-map : {A B : Type 0} (f : A → B) (n : ℕ) (xs : List A) → map f (take n xs) ≡ take n (map f xs)
take-map f zero xs = refl
take-map f (suc n) [] = refl
take-map f (suc n) (x ∷ xs) = ap (λ l. f x ∷ l) (take-map f n xs)

pub table_density-front : {C : Type 0} (K : Kind C) (q k : ℕ) (xs ys : List C) → ys ≡ take (q ^ k) xs → table_density K q k ys ≡ table_density K q k xs
table_density-front {C} K q k xs ys e =
    ap (λ (charges : List K.group.Carrier). record { q = q; k = k; charges = charges })
    (ap (λ (t : List C). table (q ^ k) (λ c. get_or (map K.means t) c K.group.zero)) e
    ∙ ap (λ (t : List K.group.Carrier). table (q ^ k) (λ c. get_or t c K.group.zero)) (take-map K.means (q ^ k) xs)
    ∙ table-front K.group.zero (q ^ k) (map K.means xs))

-- the pattern's charge stands at its code
module _ {C : Type 0} (K : Kind C) (q k pattern : ℕ) (x : C) (c : ℕ) where
  abbrev at : ℕ → K.group.Carrier
  at i = cond (eqb i pattern) (K.means x) K.group.zero

  pub pattern-at : pattern < q ^ k → get_or (pattern_density K q k pattern x).charges c K.group.zero ≡ at c
  pattern-at within =
      elim (dec_lt c (q ^ k)) [
        | yes h ↦ get_or-table (q ^ k) at K.group.zero c h
        | no h ↦ table-past (q ^ k) at K.group.zero c (omega arith) ∙ sym (ap (λ b. cond b (K.means x) K.group.zero) (ne_eqb c pattern (λ e. absurd (omega arith))))
      ]

-- the sums of a front
pub sum_more : (q n i front sum : ℕ) (t : ℕ) → i < n → letter_sum (word q (n - i) front) + sum ≡ t → letter_sum (word q (n - (i + 1)) (front / q)) + (sum + front % q) ≡ t
sum_more q n i front sum t h e =
    let left : n - i ≡ suc (n - (i + 1)) = omega arith in
    let push = letter_sum_push (word q (n - (i + 1)) (front / q)) (front % q) in
    let split = ap (λ (m : ℕ). letter_sum (word q m front)) left in
    omega arith

-- a rule looked up in a front is looked up in the whole
pub lookup_rule-front : (place : ℕ → ℕ → ℕ → ℕ) (q n l places : ℕ) (xs ys : List ℕ) → ((c : ℕ) → c < q ^ n → place q n c < places) → ys ≡ take places xs →
    lookup_rule place q n l ys ≡ lookup_rule place q n l xs
lookup_rule-front place q n l places xs ys within e =
    ap (λ (letters : List ℕ). record { q = q; n = n; l = l; answers = letters })
    (window_same (q ^ n) (λ c. get_or ys (place q n c) 0) (λ c. get_or xs (place q n c) 0) 0 0
    (λ t h. ap (λ (zs : List ℕ). get_or zs (place q n (0 + t)) 0) e ∙ get_or-take places xs (place q n (0 + t)) 0 (within (0 + t) (omega arith))))
