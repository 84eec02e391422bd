-- Words and their codes. Assumes nothing.
use Rattle.std.proofs.Common.{◌≡◌, ℕ, zero, suc, ◌+◌, ◌*◌, ◌/◌, ◌%◌, ◌^◌, ◌<◌, ◌↔◌, List, [], ◌∷◌, ◌++◌, length, get_or, take, drop, sym, refl, ap, ◌∙◌, subst, ap₂, mod-lt, mul_comm, div-lt_iff_lt-mul, mul-pos, pow-suc, add-one, arith, length-append, length-take, take_all, take-suc}
use native.Mathlib.Nat.{div-add-mod, pow-zero}
use lib.Arith.{digits_div, digits_mod, mod-mul}
use lib.Seq.{drop-append-le}
use Rattle.std.specs.Int.Digits.{AllBelowBase}
use Rattle.std.proofs.lemmas.Int.Digits.{number_push, number_more, number_lt}
use Rattle.std.proofs.ByRecursion.{All-from_get_or}
use Rattle.automaton.specs.Words.{Letters, Word, code, word}
use Rattle.automaton.proofs.Rings.{letters-append, letters-take}

under-letters : (q : ℕ) (w : List ℕ) → Letters q w → AllBelowBase q w
under-letters q w a = All-from_get_or (λ x. x < q) w 0 a

pub code_lt : (q m : ℕ) (w : List ℕ) → Word q m w → code q w < q ^ m
code_lt q m w word = subst (λ n. code q w < q ^ n) word.0 (number_lt q w (under-letters q w word.1))

pub length-word : (q m c : ℕ) → length (word q m c) ≡ m
length-word q zero c = refl
length-word q (suc m) c = length-append (word q m (c / q)) (c % q ∷ []) ∙ omega (arith, length-word q m (c / q))

module _ (q : ℕ) (some : 0 < q) where
  pub word-letters : (m c : ℕ) → Letters q (word q m c)
  word-letters zero c = λ i h. absurd (omega arith)
  word-letters (suc m) c = letters-append q (word q m (c / q)) (c % q ∷ []) (word-letters m (c / q)) last
    where
      last : Letters q (c % q ∷ [])
      last zero h = mod-lt c some
      last (suc i) h = absurd (omega arith)

  pub word-word : (m c : ℕ) → Word q m (word q m c)
  word-word m c = (length-word q m c, word-letters m c)

  pub power-some : (m : ℕ) → 0 < q ^ m
  power-some zero = omega (arith, pow-zero q)
  power-some (suc m) = subst (λ t. 0 < t) (sym (pow-suc q m)) (mul-pos (power-some m) some)

  -- one more letter at the end
  pub word_push : (m v a : ℕ) → a < q → word q (suc m) (v * q + a) ≡ word q m v ++ (a ∷ [])
  word_push m v a h = ap₂ (λ x y. word q m x ++ (y ∷ [])) (digits_div v h) (digits_mod v h)

  pub drop-word : (r c : ℕ) → drop 1 (word q (suc r) c) ≡ word q r (c % q ^ r)
  drop-word zero c = refl
  drop-word (suc r) c =
      let split : c % q ^ suc r ≡ (c / q % q ^ r) * q + c % q = ap (λ t. c % t) (pow-suc q r) ∙ mod-mul c (power-some r) some in
      drop-append-le 1 (word q (suc r) (c / q)) (c % q ∷ []) (omega (arith, length-word q (suc r) (c / q)))
      ∙ ap (λ t. t ++ (c % q ∷ [])) (drop-word r (c / q))
      ∙ sym (ap (word q (suc r)) split ∙ word_push r (c / q % q ^ r) (c % q) (mod-lt c some))

  pub code-word : (m c : ℕ) → c < q ^ m → code q (word q m c) ≡ c
  code-word zero c h = omega (arith, pow-zero q)
  code-word (suc m) c h =
      number_push q (word q m (c / q)) (c % q)
      ∙ ap (λ t. t * q + c % q) (code-word m (c / q) ((div-lt_iff_lt-mul some).1 (subst (λ t. c < t) (pow-suc q m) h)))
      ∙ omega (arith, div-add-mod c q, mul_comm q (c / q))

  pub word-code : (m : ℕ) (w : List ℕ) → Word q m w → word q m (code q w) ≡ w
  word-code zero [] w = refl
  word-code zero (x ∷ w) word = absurd (omega (arith, word.0))
  word-code (suc m) w is =
      let front : List ℕ = take m w in
      let whole : take (suc m) w ≡ w = take_all (suc m) w (omega (arith, is.0)) in
      let last : get_or w m 0 < q = is.1 m (omega (arith, is.0)) in
      let split : code q w ≡ code q front * q + get_or w m 0 =
      ap (code q) (sym whole ∙ ap (λ n. take n w) (sym (add-one m))) ∙ number_more q w m (omega (arith, is.0)) in
      ap (word q (suc m)) split
      ∙ word_push m (code q front) (get_or w m 0) last
      ∙ ap (λ t. t ++ (get_or w m 0 ∷ [])) (word-code m front (omega (arith, length-take m w, is.0), letters-take q m w is.1))
      ∙ sym (take-suc w m 0 (omega (arith, is.0)))
      ∙ whole

  -- what is true of every code is true of every word
  pub every-word : (P : List ℕ → Type 0) (m : ℕ) → ((c : ℕ) → c < q ^ m → P (word q m c)) ↔ ((w : List ℕ) → Word q m w → P w)
  every-word P m = (λ all w is. subst P (word-code m w is) (all (code q w) (code_lt q m w is)), λ all c h. all (word q m c) (word-word m c))
