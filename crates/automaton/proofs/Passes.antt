-- What a rule or a density has passed once it is made. Assumes nothing.
use Rattle.std.proofs.Common.{◌≡◌, ℕ, zero, suc, ◌+◌, ◌<◌, ◌≤◌, Bool, true, false, cond, ltb, List, [], ◌∷◌, length, get_or, take, not, Some, Ok, Err, sym, refl, ap, ◌∙◌, subst, arith, length-take-le}
use Rattle.std.specs.List.{list_all, position, position_from}
use Rattle.std.specs.Option.{option_map_or}
use Rattle.std.proofs.lemmas.Iterator.Adapters.{position_from-zero}
use Rattle.std.proofs.lemmas.Bool.{ltb-true, lt-ltb}
use Rattle.std.proofs.lemmas.Bool.Decides.{nat_tests}
use Rattle.fault.specs.declared.Stop.{Stop}
use Rattle.fault.specs.declared.Stop.TheVariants.{BadLetter}
use Rattle.fault.specs.Checks.{each_fits}
use Rattle.fault.specs.Limits.{most_cells}
use Rattle.fault.specs.Refusals.{refused_at}
use Rattle.automaton.specs.Words.{Letters}
use Rattle.automaton.specs.Making.{taken, ring_checked}

-- items that all pass
pub each_passes : {X : Type 0} (allows : X → Bool) (stop : Stop) (none : X) (i : ℕ) (xs : List X) → each_fits allows stop i xs ≡ Ok tt →
    (j : ℕ) → j < length xs → allows (get_or xs j none) ≡ true
each_passes allows stop none i [] e j h = absurd (omega arith)
each_passes allows stop none i (x ∷ xs) e zero h = grind (arith, nat_tests)
each_passes allows stop none i (x ∷ xs) e (suc j) h = each_passes allows stop none (i + 1) xs (grind (arith, nat_tests)) j (omega arith)

pub all_pass : {X : Type 0} (allows : X → Bool) (stop : Stop) (i : ℕ) (xs : List X) → each_fits allows stop i xs ≡ Ok tt → list_all allows xs ≡ true
all_pass allows stop i [] e = refl
all_pass allows stop i (x ∷ xs) e =
    let rest = all_pass allows stop (i + 1) xs (grind (arith, nat_tests)) in
    grind (arith, nat_tests)

-- the first item that does not pass, by its index
module _ {X : Type 0} (fits : X → Bool) (stop : Stop) where
  fits-from : (xs : List X) (i : ℕ) → each_fits fits stop i xs ≡ option_map_or (λ j. Err (refused_at stop j)) (position_from (λ x. not (fits x)) i xs) (Ok tt)
  fits-from [] i = refl
  fits-from (x ∷ xs) i =
      elim (fits x) as (λ b. cond b (each_fits fits stop (i + 1) xs) (Err (refused_at stop i)) ≡ option_map_or (λ j. Err (refused_at stop j)) (cond (not b) (Some i) (position_from (λ x. not (fits x)) (i + 1) xs)) (Ok tt)) [
        | true ↦ fits-from xs (i + 1)
        | false ↦ refl
      ]

  pub fits-position : (xs : List X) → option_map_or (λ j. Err (refused_at stop j)) (position (λ x. not (fits x)) xs) (Ok tt) ≡ each_fits fits stop 0 xs
  fits-position xs = ap (λ r. option_map_or (λ j. Err (refused_at stop j)) r (Ok tt)) (position_from-zero (λ x. not (fits x)) xs) ∙ sym (fits-from xs 0)

pub taken-front : {X : Type 0} (allows : X → Bool) (stop : Stop) (need : ℕ) (xs ys : List X) → taken allows stop need xs ≡ Ok ys →
    (need ≤ length xs) × (ys ≡ take need xs) × (each_fits allows stop 0 (take need xs) ≡ Ok tt)
taken-front allows stop need xs ys e = grind (arith, nat_tests)

pub taken-letters : (q need : ℕ) (xs ys : List ℕ) → taken (λ a. ltb a q) BadLetter need xs ≡ Ok ys → (length ys ≡ need) × Letters q ys
taken-letters q need xs ys e =
    let p = taken-front (λ a. ltb a q) BadLetter need xs ys e in (
      ap length p.1 ∙ length-take-le need xs p.0,
      subst (Letters q) (sym p.1) (λ i h. ltb-true (get_or (take need xs) i 0) q (each_passes (λ a. ltb a q) BadLetter 0 0 (take need xs) p.2 i h)),
    )

pub ring_passes : (q room : ℕ) (ring : List ℕ) → 1 ≤ length ring → length ring ≤ most_cells → length ring ≤ room → each_fits (λ a. ltb a q) BadLetter 0 ring ≡ Ok tt → ring_checked q room ring ≡ Ok ring
ring_passes q room ring some most fits e = grind (arith, nat_tests)

pub ring-letters : (q : ℕ) (ring : List ℕ) → each_fits (λ a. ltb a q) BadLetter 0 ring ≡ Ok tt → Letters q ring
ring-letters q ring e i h = ltb-true (get_or ring i 0) q (each_passes (λ a. ltb a q) BadLetter 0 0 ring e i h)

-- letters below q are allowed
letters_fit : (q i : ℕ) (xs : List ℕ) → Letters q xs → each_fits (λ a. ltb a q) BadLetter i xs ≡ Ok tt
letters_fit q i [] below = refl
letters_fit q i (x ∷ xs) below =
    ap (λ b. cond b (each_fits (λ a. ltb a q) BadLetter (i + 1) xs) (Err (refused_at BadLetter i))) (lt-ltb x q (below 0 (omega arith)))
    ∙ letters_fit q (i + 1) xs (λ k h. below (suc k) (omega arith))

pub ring_ready : (q room : ℕ) (ring : List ℕ) → 1 ≤ length ring → length ring ≤ most_cells → length ring ≤ room → Letters q ring → ring_checked q room ring ≡ Ok ring
ring_ready q room ring some most fits below = ring_passes q room ring some most fits (letters_fit q 0 ring below)
