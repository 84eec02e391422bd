-- A refused call has the lowest code that fits, and a call that no code fits is not refused. Assumes nothing.
use Rattle.std.proofs.Common.{◌≡◌, ℕ, zero, suc, ◌+◌, ◌<◌, ◌≤◌, ◌⊎◌, inl, inr, min, Bool, true, false, cond, ltb, nat_le, nat_lt, List, [], ◌∷◌, ◌++◌, length, get_or, take, Ok, Err, Result, sym, refl, ap, subst, zero-add, ◌∙◌, ltb-true, ltb-false, arith}
use Rattle.std.proofs.lemmas.Bool.Decides.{nat_tests}
use Rattle.fault.specs.declared.Stop.TheVariants.{BadLength, ShortStrip, BadPosition, BadLetter}
use Rattle.fault.specs.Answers.{and_then}
use Rattle.fault.specs.Checks.{tested, each_fits}
use Rattle.fault.specs.Limits.{most_cells, within}
use Rattle.fault.specs.Refusals.{Refusal, refused_at}
use Rattle.charge.specs.Groups.{Kind}
use Rattle.automaton.specs.Words.{Letters}
use Rattle.player.specs.Calls.PlayerCall.{opens, touches, steps, reads, closes}
use Rattle.player.specs.Laws.{BadSize, Short, OffRing, FirstOffender, LowestOf, RefusalsFit}

-- a test is passed exactly where B does not hold
abbrev Tells : Bool → Type 0 → Type 0
Tells true B = B → ⊥
Tells false B = B

-- what is said of the letters of w, counted from i
abbrev LettersTold : ℕ → List ℕ → ℕ → Result (Unit {0}) Refusal → Type 0
LettersTold q w i (Ok t) = Letters q w
LettersTold q w i (Err f) = (p : ℕ) × (f ≡ refused_at BadLetter (i + p)) × FirstOffender q w p

-- the first letter that is not below q is refused by its index
letters_told : (q : ℕ) (w : List ℕ) (i : ℕ) → LettersTold q w i (each_fits (λ a. ltb a q) BadLetter i w)
letters_told q [] i = λ j h. absurd (omega arith)
letters_told q (a ∷ w) i = go (ltb a q) refl (each_fits (λ a. ltb a q) BadLetter (i + 1) w) (letters_told q w (i + 1))
  where
    -- a fits, and so do the first p letters of w
    front_fits : ltb a q ≡ true → (p : ℕ) → ((j : ℕ) → j < p → get_or w j 0 < q) → (j : ℕ) → j < suc p → get_or (a ∷ w) j 0 < q
    front_fits e p all zero h = ltb-true a q e
    front_fits e p all (suc j) h = all j (omega arith)

    go : (b : Bool) → ltb a q ≡ b → (rest : Result (Unit {0}) Refusal) → LettersTold q w (i + 1) rest →
        LettersTold q (a ∷ w) i (cond b rest (Err (refused_at BadLetter i)))
    go true e (Ok t) told = front_fits e (length w) told
    go true e (Err f) told =
        (suc told.0, told.1 ∙ ap (refused_at BadLetter) (omega arith), (omega (arith, told.2.0), told.2.1, front_fits e told.0 told.2.2))
    go false e rest told = (0, ap (refused_at BadLetter) (omega arith), (omega arith, ltb-false a q e, λ j h. absurd (omega arith)))

-- that a refusal fits, where Size, Strip and Place are what makes the tests fail
abbrev FitsOf : ℕ → List ℕ → Type 0 → Type 0 → Type 0 → Refusal → Type 0
FitsOf q w Size Strip Place f =
    ((f ≡ refused_at BadLength 0) × Size)
    ⊎ (((f ≡ refused_at ShortStrip 0) × Strip)
    ⊎ (((f ≡ refused_at BadPosition 0) × Place)
    ⊎ ((f ≡ refused_at BadLetter f.1) × FirstOffender q w f.1)))

module _ (q : ℕ) (w : List ℕ) (Size Strip Place : Type 0) where
  abbrev ruled : Bool → Bool → Bool → Result (Unit {0}) Refusal
  ruled a b c = and_then (tested ((a, BadLength) ∷ (b, ShortStrip) ∷ (c, BadPosition) ∷ [])) (λ _. each_fits (λ a. ltb a q) BadLetter 0 w)

  -- a refusal that fits has code n or more
  at_least : (n : ℕ) → (Size → n ≤ 11) → (Strip → n ≤ 12) → (Place → n ≤ 13) → n ≤ 14 → (g : Refusal) → FitsOf q w Size Strip Place g → n ≤ g.0
  at_least n a b c d g (inl x) = omega (arith, a x.1, ap (λ (f : Refusal). f.0) x.0)
  at_least n a b c d g (inr (inl x)) = omega (arith, b x.1, ap (λ (f : Refusal). f.0) x.0)
  at_least n a b c d g (inr (inr (inl x))) = omega (arith, c x.1, ap (λ (f : Refusal). f.0) x.0)
  at_least n a b c d g (inr (inr (inr x))) = omega (arith, d, ap (λ (f : Refusal). f.0) x.0)

  -- where the tests have passed, the letters decide
  letters_lowest : (Size → ⊥) → (Strip → ⊥) → (Place → ⊥) → (rest : Result (Unit {0}) Refusal) → LettersTold q w 0 rest →
      LowestOf (FitsOf q w Size Strip Place) rest
  letters_lowest a b c (Ok t) below = λ f fits. none f fits
    where
      none : (f : Refusal) → FitsOf q w Size Strip Place f → ⊥
      none f (inl x) = a x.1
      none f (inr (inl x)) = b x.1
      none f (inr (inr (inl x))) = c x.1
      none f (inr (inr (inr x))) = absurd (omega (arith, x.1.1, below f.1 x.1.0))
  letters_lowest a b c (Err f) told = (
    inr (inr (inr
        (subst (λ (f : Refusal). (f ≡ refused_at BadLetter f.1) × FirstOffender q w f.1) (sym (told.1 ∙ ap (refused_at BadLetter) (zero-add told.0)))
        (refl, told.2)))),
    at_least f.0 (λ x. absurd (a x)) (λ x. absurd (b x)) (λ x. absurd (c x)) (omega (arith, ap (λ (f : Refusal). f.0) told.1)),
  )

  -- the first test that fails has the lowest code
  lowest : (a b c : Bool) → Tells a Size → Tells b Strip → Tells c Place → LowestOf (FitsOf q w Size Strip Place) (ruled a b c)
  lowest true true true a b c = letters_lowest a b c (each_fits (λ a. ltb a q) BadLetter 0 w) (letters_told q w 0)
  lowest true true false a b c = (inr (inr (inl (refl, c))), at_least 13 (λ x. absurd (a x)) (λ x. absurd (b x)) (λ _. omega arith) (omega arith))
  lowest true false t a b c = (inr (inl (refl, b)), at_least 12 (λ x. absurd (a x)) (λ _. omega arith) (λ _. omega arith) (omega arith))
  lowest false s t a b c = (inl (refl, a), at_least 11 (λ _. omega arith) (λ _. omega arith) (λ _. omega arith) (omega arith))

-- what each test tells
tells : (b : Bool) (B : Type 0) → (b ≡ true → B → ⊥) → (b ≡ false → B) → Tells b B
tells true B passes fails = passes refl
tells false B passes fails = fails refl

size_tells : (L : ℕ) → Tells (within 1 (suc most_cells) L) ((L < 1) ⊎ (most_cells < L))
size_tells L = tells (within 1 (suc most_cells) L) ((L < 1) ⊎ (most_cells < L)) (λ e h. grind (arith, nat_tests)) (λ e. grind (arith, nat_tests))

place_tells : (i L : ℕ) → Tells (nat_lt i L) (L ≤ i)
place_tells i L = tells (nat_lt i L) (L ≤ i) (λ e h. grind (arith, nat_tests)) (λ e. grind (arith, nat_tests))

two_tell : (L a b : ℕ) → Tells (nat_le L (min a b)) ((a < L) ⊎ (b < L))
two_tell L a b = tells (nat_le L (min a b)) ((a < L) ⊎ (b < L)) (λ e h. grind (arith, nat_tests)) (λ e. grind (arith, nat_tests))

three_tell : (L a b c : ℕ) → Tells (nat_le L (min (min a b) c)) ((a < L) ⊎ ((b < L) ⊎ (c < L)))
three_tell L a b c = tells (nat_le L (min (min a b) c)) ((a < L) ⊎ ((b < L) ⊎ (c < L))) (λ e h. grind (arith, nat_tests)) (λ e. grind (arith, nat_tests))

four_tell : (L a b c d : ℕ) → Tells (nat_le L (min (min (min a b) c) d)) ((a < L) ⊎ ((b < L) ⊎ ((c < L) ⊎ (d < L))))
four_tell L a b c d =
    tells (nat_le L (min (min (min a b) c) d)) ((a < L) ⊎ ((b < L) ⊎ ((c < L) ⊎ (d < L)))) (λ e h. grind (arith, nat_tests)) (λ e. grind (arith, nat_tests))

pub refusals_fit : {C : Type 0} (K : Kind C) → RefusalsFit K
refusals_fit K q L (opens ring) s =
    lowest q ring (BadSize L (opens ring)) (Short L (opens ring) s) (OffRing L (opens ring)) _ _ true (size_tells L)
    (four_tell L (length s.cells) (length s.opening) (length s.crossed) (length s.touched)) (λ x. x)
refusals_fit K q L (touches i a) s =
    lowest q (take L s.cells ++ (a ∷ [])) ⊥ (Short L (touches i a) s) (L ≤ i) true _ _ (λ x. x)
    (two_tell L (length s.cells) (length s.touched)) (place_tells i L)
refusals_fit K q L steps s =
    lowest q (take L s.cells) ⊥ (Short L steps s) ⊥ true _ true (λ x. x) (three_tell L (length s.cells) (length s.spare) (length s.crossed)) (λ x. x)
refusals_fit K q L (reads i) s =
    lowest q (take L s.cells) ⊥ (Short L (reads i) s) (L ≤ i) true _ _ (λ x. x)
    (four_tell L (length s.cells) (length s.opening) (length s.crossed) (length s.touched)) (place_tells i L)
refusals_fit K q L closes s = lowest q [] ⊥ ⊥ ⊥ true true true (λ x. x) (λ x. x) (λ x. x)
