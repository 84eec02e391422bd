-- The next letters of a word, by those of its prefix. Assumes nothing.
use Rattle.std.proofs.Common.{mul_assoc, add_assoc, add_comm, zero-mul, add-one, refl, [], ◌∷◌, ◌≡◌, ℕ, suc, ◌+◌, ◌-◌, ◌*◌, ◌/◌, ◌%◌, ◌^◌, ◌<◌, ◌≤◌, max, List, length, get_or, take, drop, set, ⊎_elim, sym, ap, ◌∙◌, ap₂, subst, mod-lt, mul_comm, pow-suc, div-one, arith, mul-le-mul_left, mul-le-mul_right}
use native.Mathlib.Nat.{add-mul, pow-le-pow_right, pow-zero, div-div-eq-div-mul}
use Rattle.std.proofs.lemmas.Bool.{cases_lt}
use Rattle.std.proofs.lemmas.Grind.{get_or-set_at}
use Rattle.std.proofs.lemmas.List.{get_or-set_other}
use Rattle.std.specs.Int.Digits.{number_from_digits_after}
use Rattle.std.proofs.lemmas.Int.Digits.{number_push}
use Rattle.automaton.specs.Words.{Letters, Word, code, word, window, table}
use Rattle.automaton.specs.Meanings.{Local, Lawful, answer}
use Rattle.automaton.proofs.Codes.{code_lt, code-word, word-code, drop-word, power-some}
use Rattle.automaton.proofs.Parts.{part-code}
use Rattle.automaton.proofs.Rings.{length-window, window_same, window-append, window-word}
use Rattle.automaton.proofs.Steps.{letters_any}
use lib.Arith.{digits_lt, digits_div, digits_mod, mod-mul}
use Rattle.bench.specs.declared.sizes.RuleSizes.{RuleSizes}
use Rattle.bench.specs.Labels.{next_letters}
use Rattle.bench.specs.KeptSizes.{sized_rule, next_word, KnowsNext}

-- a word without its first letter, by codes
code-drop : (q : ℕ) → 0 < q → (p : ℕ) (w : List ℕ) → Word q (suc p) w → code q (drop 1 w) ≡ code q w % q ^ p
code-drop q some p w is =
    ap (λ t. code q (drop 1 t)) (sym (word-code q some (suc p) w is))
    ∙ ap (code q) (drop-word q some p (code q w))
    ∙ code-word q some p (code q w % q ^ p) (mod-lt (code q w) (power-some q some p))

-- a word with one more letter in front, by codes
code_after : (q n : ℕ) (w : List ℕ) → number_from_digits_after q n w ≡ n * q ^ length w + code q w
code_after q n [] = sym (ap (λ p. n * p + 0) (pow-zero q) ∙ omega arith)
code_after q n (a ∷ w) =
    let P : ℕ = q ^ length w in
    code_after q (n * q + a) w
    ∙ ap (λ t. t + code q w) (add-mul (n * q) a P ∙ ap (λ t. t + a * P) (mul_assoc n q P ∙ ap (λ t. n * t) (mul_comm q P ∙ sym (pow-suc q (length w)))))
    ∙ add_assoc (n * q ^ suc (length w)) (a * P) (code q w)
    ∙ ap (λ t. n * q ^ suc (length w) + t) (sym (ap (λ t. number_from_digits_after q t w) (omega (arith, zero-mul q)) ∙ code_after q a w))

code-first : (q a : ℕ) (w : List ℕ) → code q (a ∷ w) ≡ a * q ^ length w + code q w
code-first q a w =
    let plain : 0 * q + a ≡ a = omega (arith, zero-mul q) in
    ap (λ t. number_from_digits_after q t w) plain ∙ code_after q a w

module _ (r : Local) (k : ℕ) where
  -- the next letter j of the word of code c, and the code of all of them
  abbrev letter : ℕ → ℕ → ℕ
  letter c j = answer r (take r.n (drop j (word r.q (r.n + k - 1) c)))

  abbrev nexts : ℕ → ℕ
  nexts c = code r.q (next_letters r k (word r.q (r.n + k - 1) c))

  -- the code of the last j next letters, the prefix of the word that the others are found in, and the place of the next one
  abbrev pub Tail : ℕ → ℕ → ℕ → ℕ → ℕ → Type 0
  Tail c j prefix place next =
      (prefix ≡ c / r.q ^ j) × (place ≡ r.q ^ j) × (next < 256 * place) × (next ≡ code r.q (window j (letter c) (k - j)))

module _ (r : Local) (some : 0 < r.q) (wide : 1 ≤ r.n) (k : ℕ) (long : 1 ≤ k) where
  letter-at : (c j : ℕ) → j < k → letter r k c j ≡ get_or r.answers (c / r.q ^ (k - 1 - j) % r.q ^ r.n) 0
  letter-at c j h =
      let after : r.n + k - 1 - r.n - j ≡ k - 1 - j = omega arith in
      ap (λ t. get_or r.answers t 0)
      (part-code r.q some (r.n + k - 1) r.n j c (omega arith) ∙ ap (λ n. c / r.q ^ n % r.q ^ r.n) after)

  -- one next letter more
  pub tail_more : (c j prefix place next a : ℕ) → 2 ≤ r.q → j < k → a < 256 → a ≡ get_or r.answers (prefix % r.q ^ r.n) 0 →
      Tail r k c j prefix place next → Tail r k c (j + 1) (prefix / r.q) (place * r.q) (next + a * place)
  tail_more c j prefix place next a two h byte is (prefixes, places, small, tail) =
      let more : place * 2 ≤ place * r.q = mul-le-mul_left place two in
      let most : a * place ≤ 255 * place = mul-le-mul_right place (omega arith) in
      let size : length (window j (letter r k c) (k - j)) ≡ j = length-window j (letter r k c) (k - j) in
      let first : suc (k - (j + 1)) ≡ k - j = omega arith in
      let here : a ≡ letter r k c (k - (j + 1)) =
      is
      ∙ ap (λ t. get_or r.answers (t % r.q ^ r.n) 0) (prefixes ∙ ap (λ n. c / r.q ^ n) (omega arith))
      ∙ sym (letter-at c (k - (j + 1)) (omega arith)) in (
        ap (λ t. t / r.q) prefixes ∙ div-div-eq-div-mul c (r.q ^ j) r.q ∙ ap (λ p. c / p) (sym (pow-suc r.q j) ∙ ap (λ n. r.q ^ n) (sym (add-one j))),
        ap (λ t. t * r.q) places ∙ sym (pow-suc r.q j) ∙ ap (λ n. r.q ^ n) (sym (add-one j)),
        omega arith,
        ap₂ (λ x y. x + y) tail (ap₂ ◌*◌ here (places ∙ ap (λ n. r.q ^ n) (sym size)))
            ∙ add_comm (code r.q (window j (letter r k c) (k - j))) (letter r k c (k - (j + 1)) * r.q ^ length (window j (letter r k c) (k - j)))
            ∙ sym (code-first r.q (letter r k c (k - (j + 1))) (window j (letter r k c) (k - j)))
            ∙ ap (λ i. code r.q (letter r k c (k - (j + 1)) ∷ window j (letter r k c) i)) (sym first)
            ∙ ap (λ n. code r.q (window n (letter r k c) (k - (j + 1)))) (sym (add-one j)),
      )

  pub tail_all : (c j prefix place next : ℕ) → j ≡ k → Tail r k c j prefix place next → next ≡ nexts r k c
  tail_all c j prefix place next all t = t.3 ∙ ap₂ (λ n i. code r.q (window n (letter r k c) i)) all (omega arith)

  pub tail_none : (c : ℕ) → Tail r k c 0 c 1 0
  tail_none c = (sym (ap (λ p. c / p) (pow-zero r.q) ∙ div-one c), sym (pow-zero r.q), omega arith, refl)

  module _ (below : Letters r.q r.answers) where
    letter_below : (c j : ℕ) → letter r k c j < r.q
    letter_below c j = letters_any r.q some r.answers below _

    nexts-word : (c : ℕ) → Word r.q k (table k (letter r k c))
    nexts-word c = window-word r.q k (letter r k c) (letter_below c) 0

    pub nexts-below : (c : ℕ) → nexts r k c < r.q ^ k
    nexts-below c = code_lt r.q k (table k (letter r k c)) (nexts-word c)

    -- a letter of the word is the letter after it of the prefix
    letter-prefix : (c j : ℕ) → suc j < k → letter r k c j ≡ letter r k (c / r.q) (suc j)
    letter-prefix c j h =
        let one : suc (k - 1 - suc j) ≡ k - 1 - j = omega arith in
        letter-at c j (omega arith)
        ∙ ap (λ t. get_or r.answers (t % r.q ^ r.n) 0)
        (ap (λ t. c / t) (ap (λ n. r.q ^ n) (sym one) ∙ pow-suc r.q (k - 1 - suc j) ∙ mul_comm (r.q ^ (k - 1 - suc j)) r.q)
        ∙ sym (div-div-eq-div-mul c r.q (r.q ^ (k - 1 - suc j))))
        ∙ sym (letter-at (c / r.q) (suc j) h)

    letter_last : (c : ℕ) → letter r k c (k - 1) ≡ get_or r.answers (c % r.q ^ r.n) 0
    letter_last c =
        let none : k - 1 - (k - 1) ≡ 0 = omega arith in
        letter-at c (k - 1) (omega arith)
        ∙ ap (λ t. get_or r.answers (t % r.q ^ r.n) 0) (ap (λ n. c / r.q ^ n) none ∙ ap (λ p. c / p) (pow-zero r.q) ∙ div-one c)

    pub nexts-prefix : (c : ℕ) → nexts r k (c / r.q) % r.q ^ (k - 1) * r.q + get_or r.answers (c % r.q ^ r.n) 0 ≡ nexts r k c
    nexts-prefix c =
        let p = k - 1 in
        let size : suc p ≡ k = omega arith in
        let size_plus : p + 1 ≡ k = omega arith in
        let tail : table p (letter r k c) ≡ drop 1 (table (suc p) (letter r k (c / r.q))) =
        window_same p (letter r k c) (letter r k (c / r.q)) 0 1 (λ t h.
        let here : 0 + t ≡ t = omega arith in
        let there : suc t ≡ 1 + t = omega arith in
        ap (letter r k c) here ∙ letter-prefix c t (omega arith) ∙ ap (letter r k (c / r.q)) there) in
        let fewer : code r.q (table p (letter r k c)) ≡ nexts r k (c / r.q) % r.q ^ p =
        ap (code r.q) tail
        ∙ code-drop r.q some p (table (suc p) (letter r k (c / r.q))) (subst (λ n. Word r.q n (table n (letter r k (c / r.q)))) (sym size) (nexts-word (c / r.q)))
        ∙ ap (λ n. code r.q (table n (letter r k (c / r.q))) % r.q ^ p) size in
        let place : p ≡ 0 + p = omega arith in
        ap₂ (λ s t. s * r.q + t) (sym fewer) (sym (letter_last c) ∙ ap (letter r k c) place)
        ∙ sym (number_push r.q (table p (letter r k c)) (letter r k c (0 + p)))
        ∙ ap (code r.q) (sym (window-append p 1 (letter r k c) 0))
        ∙ ap (λ n. code r.q (table n (letter r k c))) size_plus

-- one more entry of a strip of which the first entries are known
module _ (f : ℕ → ℕ) (strip : List ℕ) (n v : ℕ) where
  pub known-more : n < length strip → v ≡ f n → ((c : ℕ) → c < max 1 n → get_or strip c 0 ≡ f c) → (c : ℕ) → c < max 1 (n + 1) → get_or (set strip n v) c 0 ≡ f c
  known-more fits is so_far c h =
      ⊎_elim
      (λ l. get_or-set_other strip n c v 0 (λ e. omega (arith, e, l)) ∙ so_far c (omega (arith, l)))
      (λ l. let same : c ≡ n = omega (arith, h, l) in get_or-set_at strip n c v 0 same fits ∙ is ∙ ap f (sym same))
      (cases_lt c n)

module _ (s : RuleSizes) where
  -- the words of all letters but the last, with one letter more, are all words
  pub heads_count : s.words.count / s.words.q * s.words.q ≡ s.words.count
  heads_count =
      let q = s.words.q in
      let heads = q ^ (s.words.m - 1) in
      let size : s.words.count ≡ heads * q = s.words.counted ∙ ap (λ n. q ^ n) (omega (arith, s.words.sizes.2)) ∙ pow-suc q (s.words.m - 1) in
      let plain : heads * q ≡ heads * q + 0 = omega arith in
      ap (λ t. t / q * q) (size ∙ plain) ∙ ap (λ t. t * q) (digits_div heads (omega (arith, s.words.sizes.0))) ∙ sym size

  -- a word with one letter more is a word, too
  pub extended-within : (head last count : ℕ) → count ≡ s.words.count → head * s.words.q < count → last < s.words.q → head * s.words.q + last < count
  extended-within head last count is h below =
      let q = s.words.q in
      let heads = q ^ (s.words.m - 1) in
      let size : count ≡ heads * q = is ∙ s.words.counted ∙ ap (λ n. q ^ n) (omega (arith, s.words.sizes.2)) ∙ pow-suc q (s.words.m - 1) in
      let less : head < heads = ⊎_elim (λ l. l) (λ l. absurd (omega (arith, mul-le-mul_right q l, size, h))) (cases_lt head heads) in
      omega (arith, size, digits_lt less below)

  -- the last window of a word with one letter more
  window_more : (head last : ℕ) → last < s.words.q → (head * s.words.q + last) % s.words.q ^ s.n ≡ head * s.words.q % s.windows + last
  window_more head last below =
      let q = s.words.q in
      let some : 0 < q = omega (arith, s.words.sizes.0) in
      let p = q ^ (s.n - 1) in
      let size : q ^ s.n ≡ p * q = ap (λ n. q ^ n) (omega (arith, s.reach)) ∙ pow-suc q (s.n - 1) in
      let split : (a : ℕ) → a < q → (head * q + a) % (p * q) ≡ head % p * q + a =
      λ a h. mod-mul (head * q + a) (power-some q some (s.n - 1)) some ∙ ap₂ (λ x y. x % p * q + y) (digits_div head h) (digits_mod head h) in
      let plain : head * q ≡ head * q + 0 = omega arith in
      let place : head * q % s.windows ≡ head % p * q = ap₂ (λ x y. x % y) plain (s.counts.0 ∙ size) ∙ split 0 some ∙ omega arith in
      ap (λ t. (head * q + last) % t) size ∙ split last below ∙ ap (λ t. t + last) (sym place)

-- a strip of as many entries as a label has words, of which the first ones are known
module _ (s : RuleSizes) (r : Local) (lawful : Lawful r) (same : sized_rule s r ≡ r) where
  sized_lawful : Lawful (sized_rule s r)
  sized_lawful = subst Lawful (sym same) lawful

  -- each code of next letters is in range
  pub next-small : (c : ℕ) → next_word s r c < 65536
  next-small c =
      let some : 0 < s.words.q = omega (arith, s.words.sizes.0) in
      let few : s.words.q ^ s.k ≤ s.words.q ^ s.words.m = pow-le-pow_right some (omega (arith, s.whole, s.reach)) in
      omega (arith, nexts-below (sized_rule s r) some (omega (arith, s.reach)) s.k s.some sized_lawful.letters c, few, s.words.few)

  pub extended : (strip : List ℕ) (head last a : ℕ) → KnowsNext s r (max 1 (head * s.words.q)) strip → last < s.words.q →
      a ≡ get_or r.answers (head * s.words.q % s.windows + last) 0 → get_or strip head 0 % s.kept * s.words.q + a ≡ next_word s r (head * s.words.q + last)
  extended strip head last a known below is =
      let q = s.words.q in
      let some : 0 < q = omega (arith, s.words.sizes.0) in
      let more : head * 2 ≤ head * q = mul-le-mul_left head s.words.sizes.0 in
      let prefix_is : get_or strip head 0 ≡ next_word s r ((head * q + last) / q) =
      known head (omega (arith, more)) ∙ ap (next_word s r) (sym (digits_div head below)) in
      ap₂ (λ x y. x * q + y)
      (ap₂ (λ x y. x % y) prefix_is s.counts.1)
      (is ∙ ap (λ t. get_or r.answers t 0) (sym (window_more s head last below)))
      ∙ nexts-prefix (sized_rule s r) some (omega (arith, s.reach)) s.k s.some sized_lawful.letters (head * q + last)
