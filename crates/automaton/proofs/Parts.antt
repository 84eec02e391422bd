-- Parts of words, and the codes of these. Assumes nothing.
use Rattle.std.proofs.Common.{◌≡◌, ℕ, zero, suc, ◌+◌, ◌-◌, ◌*◌, ◌/◌, ◌%◌, ◌^◌, ◌≤◌, [], ◌∷◌, ◌++◌, take, drop, sym, ap, ◌∙◌, ap₂, append_assoc, append-nil, add-zero, add-suc, pow-suc, div-one, arith, take_at, drop_at}
use native.Mathlib.Nat.{pow-zero, pow-succ', mod-one, div-div-eq-div-mul}
use lib.Arith.{mod-mul}
use Rattle.std.proofs.lemmas.Int.Digits.{number_push}
use Rattle.automaton.specs.Words.{code, word}
use Rattle.automaton.proofs.Codes.{length-word, power-some}

-- the letters of a word in two parts
word-parts : (q a b c : ℕ) → word q (a + b) c ≡ word q a (c / q ^ b) ++ word q b c
word-parts q a zero c =
    ap₂ (word q) (add-zero a) (sym (ap (λ t. c / t) (pow-zero q) ∙ div-one c)) ∙ sym (append-nil (word q a (c / q ^ 0)))
word-parts q a (suc b) c =
    ap (λ n. word q n c) (add-suc a b)
    ∙ ap (λ t. t ++ (c % q ∷ [])) (word-parts q a b (c / q))
    ∙ append_assoc (word q a (c / q / q ^ b)) (word q b (c / q)) (c % q ∷ [])
    ∙ ap (λ t. word q a t ++ word q (suc b) c) (div-div-eq-div-mul c q (q ^ b) ∙ ap (λ t. c / t) (sym (pow-succ' q b)))

-- the n letters of a word that r letters follow
part-word : (q j n r c : ℕ) → take n (drop j (word q (j + (n + r)) c)) ≡ word q n (c / q ^ r)
part-word q j n r c =
    ap (take n) (ap (drop j) (word-parts q j (n + r) c) ∙ drop_at (word q j (c / q ^ (n + r))) (word q (n + r) c) j (length-word q j (c / q ^ (n + r))))
    ∙ ap (take n) (word-parts q n r c)
    ∙ take_at (word q n (c / q ^ r)) (word q r c) n (length-word q n (c / q ^ r))

module _ (q : ℕ) (some : 1 ≤ q) where
  -- letters before the last n do not count
  code-word-mod : (n c : ℕ) → code q (word q n c) ≡ c % q ^ n
  code-word-mod zero c = sym (ap (λ t. c % t) (pow-zero q) ∙ mod-one c)
  code-word-mod (suc n) c =
      number_push q (word q n (c / q)) (c % q)
      ∙ ap (λ t. t * q + c % q) (code-word-mod n (c / q))
      ∙ sym (ap (λ t. c % t) (pow-suc q n) ∙ mod-mul c (power-some q some n) some)

  -- the code of n letters of a word from letter j on
  pub part-code : (m n j c : ℕ) → j + n ≤ m → code q (take n (drop j (word q m c))) ≡ c / q ^ (m - n - j) % q ^ n
  part-code m n j c within =
      let split : m ≡ j + (n + (m - n - j)) = omega arith in
      ap (λ t. code q (take n (drop j (word q t c)))) split
      ∙ ap (code q) (part-word q j n (m - n - j) c)
      ∙ code-word-mod n (c / q ^ (m - n - j))
