-- What a call that is not refused has passed. Assumes nothing.
use Rattle.std.proofs.Common.{◌≡◌, ℕ, suc, ◌+◌, ◌<◌, ◌≤◌, Bool, true, false, cond, List, [], ◌∷◌, ◌++◌, length, map, take, min, Ok, Err, Result, ltb, sym, refl, ap, ◌∙◌, subst, add-zero, length-append, length-take-le, get_or-append-add, arith}
use Rattle.std.proofs.lemmas.List.{get_or_append_left, length-map}
use Rattle.std.proofs.lemmas.Bool.Decides.{nat_tests}
use Rattle.std.specs.Result.{result_and}
use Rattle.fault.specs.declared.Fault.{Fault}
use Rattle.fault.specs.declared.Stop.{Stop}
use Rattle.fault.specs.declared.Stop.TheVariants.{BadLetter}
use Rattle.fault.specs.Answers.{plainly, and_then}
use Rattle.fault.specs.Checks.{tested, each_fits}
use Rattle.fault.specs.Refusals.{Refusal, refused_at}
use Rattle.charge.specs.Groups.{Kind}
use Rattle.automaton.specs.Words.{Letters}
use Rattle.automaton.proofs.Passes.{ring-letters}
use Rattle.player.specs.Calls.{PlayerCall, PlayerStrips, tests, call_letters, call_checked}
use Rattle.player.specs.Calls.PlayerCall.{touches, steps}
use Rattle.player.specs.Promises.{meant, touch_strips}

-- the second of two tests, where both have passed
second : {X Y : Type 0} (x : Result X Refusal) (y : Result Y Refusal) (t : Y) → and_then x (λ _. y) ≡ Ok t → y ≡ Ok t
second (Ok v) y t e = e
second (Err f) y t e = grind (arith, nat_tests)

pub letters_passed : {A : Type 0} (q L : ℕ) (call : PlayerCall) (s : PlayerStrips A) → call_checked q L call s ≡ Ok tt → Letters q (call_letters L call s)
letters_passed q L call s e =
    ring-letters q (call_letters L call s) (second (tested (tests L call s)) (each_fits (λ a. ltb a q) BadLetter 0 (call_letters L call s)) tt e)

-- of a word of letters below q its first letters are, and its last
pub front_below : (q : ℕ) (v w : List ℕ) → Letters q (v ++ w) → Letters q v
front_below q v w below i h = subst (λ x. x < q) (get_or_append_left v w 0 i h) (below i (omega (arith, length-append v w)))

pub last_below : (q : ℕ) (w : List ℕ) (a : ℕ) → Letters q (w ++ (a ∷ [])) → a < q
last_below q w a below = subst (λ x. x < q) (get_or-append-add w (a ∷ []) 0 0) (below (length w + 0) (omega (arith, length-append w (a ∷ []))))

-- the strips are long enough, and the position is on the ring
pub touches_fit : {A : Type 0} (q L i a : ℕ) (s : PlayerStrips A) → call_checked q L (touches i a) s ≡ Ok tt → (L ≤ length s.cells) × (L ≤ length s.touched) × (i < L)
touches_fit q L i a s e = grind (arith, nat_tests)

pub steps_fit : {A : Type 0} (q L : ℕ) (s : PlayerStrips A) → call_checked q L steps s ≡ Ok tt → (L ≤ length s.cells) × (L ≤ length s.spare) × (L ≤ length s.crossed)
steps_fit q L s e = grind (arith, nat_tests)

-- one letter more
fits-push : {X : Type 0} (fits : X → Bool) (stop : Stop) (xs : List X) (a : X) (i : ℕ) →
    each_fits fits stop i (xs ++ (a ∷ [])) ≡ and_then (each_fits fits stop i xs) (λ _. cond (fits a) (Ok tt) (Err (refused_at stop (i + length xs))))
fits-push fits stop [] a i = ap (λ n. cond (fits a) (Ok tt) (Err (refused_at stop n))) (sym (add-zero i))
fits-push fits stop (x ∷ xs) a i =
    elim (fits x) as (λ b. cond b (each_fits fits stop (i + 1) (xs ++ (a ∷ []))) (Err (refused_at stop i))
    ≡ and_then (cond b (each_fits fits stop (i + 1) xs) (Err (refused_at stop i))) (λ _. cond (fits a) (Ok tt) (Err (refused_at stop (i + suc (length xs)))))) [
      | true ↦ fits-push fits stop xs a (i + 1)
          ∙ ap (λ n. and_then (each_fits fits stop (i + 1) xs) (λ _. cond (fits a) (Ok tt) (Err (refused_at stop n)))) (omega arith)
      | false ↦ refl
    ]

-- the letters of a touch, where its other tests have passed
module _ {C : Type 0} (K : Kind C) (q L i a : ℕ) (cells : List ℕ) (touched : List C) (room : L ≤ min (length cells) (length touched)) (on : i < L) where
  abbrev handed : PlayerStrips K.group.Carrier
  handed = meant K (touch_strips cells touched)

  touch-tests : call_checked q L (touches i a) handed ≡ each_fits (λ x. ltb x q) BadLetter 0 (take L cells ++ (a ∷ []))
  touch-tests =
      let size : length (map K.means touched) ≡ length touched = length-map touched K.means in
      grind (arith, nat_tests, size)

  pub touch-letters : (found : Result (Unit {0}) Refusal) → found ≡ each_fits (λ x. ltb x q) BadLetter 0 (take L cells) →
      and_then found (λ _. cond (ltb a q) (Ok tt) (Err (refused_at BadLetter L))) ≡ call_checked q L (touches i a) handed
  touch-letters found e =
      let size : 0 + length (take L cells) ≡ L = omega (arith, length-take-le L cells (omega (arith, room))) in
      ap (λ x. and_then x (λ _. cond (ltb a q) (Ok tt) (Err (refused_at BadLetter L)))) e
      ∙ ap (λ n. and_then (each_fits (λ x. ltb x q) BadLetter 0 (take L cells)) (λ _. cond (ltb a q) (Ok tt) (Err (refused_at BadLetter n)))) (sym size)
      ∙ sym (touch-tests ∙ fits-push (λ x. ltb x q) BadLetter (take L cells) a 0)

-- two tests one after another
pub plainly-and : {X Y : Type 0} (a : Result X Fault) (b : Result Y Fault) → plainly (result_and a b) ≡ and_then (plainly a) (λ _. plainly b)
plainly-and (Ok x) b = refl
plainly-and (Err f) b = refl
