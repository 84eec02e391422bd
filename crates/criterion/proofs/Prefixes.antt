-- The crossings by codes, and the strip that they fill. Assumes nothing.
use Rattle.std.proofs.Common.{get_or-take, div-le_self, ◌≡◌, ℕ, zero, suc, ◌+◌, ◌-◌, ◌*◌, ◌/◌, ◌%◌, ◌^◌, ◌<◌, ◌≤◌, ◌==◌, cond, false, ⊎_elim, List, [], ◌∷◌, ◌++◌, map, length, get_or, take, drop, set, sym, refl, ap, ◌∙◌, subst, ap₂, add-zero, add-suc, mul_comm, div-lt_iff_lt-mul, pow-suc, zero-add, zero-mul, div-one, add-one, arith, take_all, pow-add}
use native.Mathlib.Nat.{pow-zero, div-div-eq-div-mul, div-eq_of_lt}
use lib.Seq.{take-append-le}
use Rattle.std.specs.Int.Digits.{number_from_digits_after}
use Rattle.std.proofs.lemmas.List.{take_more_set, drop-set, drop_all, append_assoc, append-nil, map_push, get_or-map, length-map}
use Rattle.std.proofs.lemmas.Bool.{cases_lt}
use Rattle.std.proofs.lemmas.Bool.Decides.{nat_tests}
use Rattle.charge.specs.Groups.{Group, Kind, minus, sum_over}
use Rattle.charge.proofs.Sums.{left_comm, interchange, neg_is, sum_more, sum_same, sum_first}
use Rattle.automaton.specs.Words.{code, word, repeated, table}
use Rattle.criterion.specs.Labelled.{LabelList, label_at}
use Rattle.automaton.proofs.Codes.{length-word, power-some, code-word}
use Rattle.automaton.proofs.Rings.{length-table, get_or-table, table-past, window-append}
use Rattle.criterion.specs.Search.{J, crossings}

-- zeros in front of a word leave its code
code_zeros : (q n : ℕ) (w : List ℕ) → code q (repeated 0 n ++ w) ≡ code q w
code_zeros q zero w = refl
code_zeros q (suc n) w =
    let none : 0 * q + 0 ≡ 0 = omega (arith, zero-mul q) in
    ap (λ t. number_from_digits_after q t (repeated 0 n ++ w)) none ∙ code_zeros q n w

-- a number without its last digits, none or one more
pub prefix_all : (q v : ℕ) → v ≡ v / q ^ 0
prefix_all q v = sym (ap (λ p. v / p) (pow-zero q) ∙ div-one v)

prefix_less : (q v j : ℕ) → v / q ^ j / q ≡ v / q ^ (j + 1)
prefix_less q v j = div-div-eq-div-mul v (q ^ j) q ∙ ap (λ p. v / p) (sym (pow-suc q j) ∙ ap (λ n. q ^ n) (sym (add-one j)))

-- the first letters of a word have the code of the word without its last letters
take-prefix : (q a b c : ℕ) → take a (word q (a + b) c) ≡ word q a (c / q ^ b)
take-prefix q a zero c =
    ap (λ n. take a (word q n c)) (add-zero a)
    ∙ take_all a (word q a c) (omega (arith, length-word q a c))
    ∙ ap (word q a) (prefix_all q c)
take-prefix q a (suc b) c =
    ap (λ n. take a (word q n c)) (add-suc a b)
    ∙ take-append-le a (word q (a + b) (c / q)) (c % q ∷ []) (omega (arith, length-word q (a + b) (c / q)))
    ∙ take-prefix q a b (c / q)
    ∙ ap (word q a) (div-div-eq-div-mul c q (q ^ b) ∙ ap (λ p. c / p) (mul_comm q (q ^ b) ∙ sym (pow-suc q b)))

head-code : (q r v j : ℕ) → 0 < q → v < q ^ r → j < r → code q (repeated 0 (r - j) ++ take (suc j) (word q r v)) ≡ v / q ^ (r - suc j)
head-code q r v j some below h =
    let parts : r ≡ suc j + (r - suc j) = omega arith in
    code_zeros q (r - j) (take (suc j) (word q r v))
    ∙ ap (λ n. code q (take (suc j) (word q n v))) parts
    ∙ ap (code q) (take-prefix q (suc j) (r - suc j) v)
    ∙ code-word q some (suc j) (v / q ^ (r - suc j))
    ((div-lt_iff_lt-mul (power-some q some (r - suc j))).1 (subst (λ n. v < n) (ap (λ n. q ^ n) parts ∙ pow-add q (suc j) (r - suc j)) below))

-- a sum may be taken from its last term on
sum_back : (G : Group) (f : ℕ → G.Carrier) (n : ℕ) → sum_over G f n ≡ sum_over G (λ i. f (n - suc i)) n
sum_back G f zero = refl
sum_back G f (suc n) =
    let last : n ≡ suc n - suc 0 = omega arith in
    ap (λ t. G.add t (f n)) (sum_back G f n)
    ∙ G.comm (sum_over G (λ i. f (n - suc i)) n) (f n)
    ∙ ap₂ G.add (ap f last) (sum_same G (λ i. f (n - suc i)) (λ i. f (suc n - suc (suc i))) n (λ i h. ap f (omega arith)))
    ∙ sym (sum_first G (λ i. f (suc n - suc i)) n)

-- of two sums that differ by one term each, the opposite of one from that of the other
moved : (G : Group) (s t z a : G.Carrier) → G.add s z ≡ G.add a t → G.add (G.neg t) (minus G z a) ≡ G.neg s
moved G s t z a e =
    neg_is G s (G.add (G.neg t) (minus G z a))
    (ap (G.add s) (left_comm G (G.neg t) z (G.neg a))
    ∙ sym (G.assoc s z (G.add (G.neg t) (G.neg a)))
    ∙ ap₂ G.add e (G.comm (G.neg t) (G.neg a))
    ∙ interchange G a t (G.neg a) (G.neg t)
    ∙ ap₂ G.add (G.cancel a) (G.cancel t)
    ∙ G.unit G.zero)

module _ {C : Type 0} (K : Kind C) (d : LabelList K.group.Carrier) where
  -- the label on the word of code v without its last i letters
  abbrev prefix_label : ℕ → ℕ → K.group.Carrier
  prefix_label v i = get_or d.charges (v / d.q ^ i) K.group.zero

  crossing-code : (v : ℕ) → 0 < d.q → v < d.q ^ (d.m - 1) →
      J K 0 d (word d.q (d.m - 1) v) ≡ K.group.neg (sum_over K.group (prefix_label v) (d.m - 1))
  crossing-code v some below =
      let G = K.group in
      let r = d.m - 1 in
      ap G.neg
      (sum_same G (λ j. label_at G d (repeated 0 (r - j) ++ take (suc j) (word d.q r v))) (λ j. prefix_label v (r - suc j)) r
      (λ j h. ap (λ c. get_or d.charges c G.zero) (head-code d.q r v j some below h))
      ∙ sym (sum_back G (prefix_label v) r))

  -- the crossing of a word from that of its prefix: J(v) = J(v / q) - d(v) + d(0)
  pub crossing-prefix : (v : ℕ) (x z a : K.group.Carrier) → 0 < d.q → v < d.q ^ (d.m - 1) →
      x ≡ J K 0 d (word d.q (d.m - 1) (v / d.q)) → z ≡ get_or d.charges 0 K.group.zero → a ≡ get_or d.charges v K.group.zero →
      K.group.add x (minus K.group z a) ≡ J K 0 d (word d.q (d.m - 1) v)
  crossing-prefix v x z a some below ex ez ea =
      let G = K.group in
      let r = d.m - 1 in
      let f : ℕ → G.Carrier = prefix_label v in
      let fewer : sum_over G (λ i. f (suc i)) r ≡ sum_over G (prefix_label (v / d.q)) r =
      sum_same G (λ i. f (suc i)) (prefix_label (v / d.q)) r
      (λ i h. ap (λ c. get_or d.charges c G.zero) (ap (λ p. v / p) (pow-suc d.q i ∙ mul_comm (d.q ^ i) d.q) ∙ sym (div-div-eq-div-mul v d.q (d.q ^ i)))) in
      let last : f r ≡ z = ap (λ c. get_or d.charges c G.zero) (div-eq_of_lt below) ∙ sym ez in
      let first : f 0 ≡ a = ap (λ c. get_or d.charges c G.zero) (sym (prefix_all d.q v)) ∙ sym ea in
      let sums : G.add (sum_over G f r) z ≡ G.add a (sum_over G (prefix_label (v / d.q)) r) =
      ap (G.add (sum_over G f r)) (sym last) ∙ sum_first G f r ∙ ap₂ G.add first fewer in
      let head : x ≡ G.neg (sum_over G (prefix_label (v / d.q)) r) = ex ∙ crossing-code (v / d.q) some (omega (arith, below, div-le_self v d.q)) in
      ap (λ t. G.add t (minus G z a)) head
      ∙ moved G (sum_over G f r) (sum_over G (prefix_label (v / d.q)) r) z a sums
      ∙ sym (crossing-code v some below)

  -- after j terms the sum is s, and the prefix is what is left of v
  abbrev pub Summed : ℕ → ℕ → ℕ → C → Type 0
  Summed v j prefix s = (prefix ≡ v / d.q ^ j) × (K.means s ≡ sum_over K.group (prefix_label v) j)

  pub summed_more : (v j prefix q : ℕ) (s x t : C) → Summed v j prefix s → q ≡ d.q → K.means x ≡ get_or d.charges prefix K.group.zero →
      K.means t ≡ K.group.add (K.means s) (K.means x) → Summed v (j + 1) (prefix / q) t
  summed_more v j prefix q s x t (prefixes, sums) same-q at is = (
    ap₂ ◌/◌ prefixes same-q ∙ prefix_less d.q v j,
    is ∙ sum_more K.group (prefix_label v) j (K.means s) (K.means x) sums (at ∙ ap (λ c. get_or d.charges c K.group.zero) prefixes),
  )

  summed_all : (v j prefix : ℕ) (s : C) → Summed v j prefix s → j ≡ d.m - 1 → 0 < d.q → v < d.q ^ (d.m - 1) →
      K.group.neg (K.means s) ≡ J K 0 d (word d.q (d.m - 1) v)
  summed_all v j prefix s (prefixes, sums) all some below =
      ap K.group.neg (sums ∙ ap (sum_over K.group (prefix_label v)) all) ∙ sym (crossing-code v some below)

  -- with all terms, the opposite of the sum is the crossing where nothing is left, and there is none where some is
  pub summed-crossing : (v j prefix : ℕ) (s : C) → Summed v j prefix s → j ≡ d.m - 1 → 0 < d.q →
      cond (prefix == 0) (K.group.neg (K.means s)) K.group.zero ≡ get_or (crossings K 0 d) v K.group.zero
  summed-crossing v j prefix s summed all some =
      ⊎_elim
      (λ l.
      let none : prefix ≡ 0 = left ∙ div-eq_of_lt l in
      ap (λ n. cond (n == 0) (K.group.neg (K.means s)) K.group.zero) none
      ∙ summed_all v j prefix s summed all some l
      ∙ sym (get_or-table (d.q ^ (d.m - 1)) at K.group.zero v l))
      (λ l.
      let some_left : 1 ≤ prefix = left_over l in
      let more : (prefix == 0) ≡ false = grind (arith, nat_tests) in
      ap (λ b. cond b (K.group.neg (K.means s)) K.group.zero) more ∙ sym (table-past (d.q ^ (d.m - 1)) at K.group.zero v l))
      (cases_lt v (d.q ^ (d.m - 1)))
    where
      at : ℕ → K.group.Carrier
      at c = J K 0 d (word d.q (d.m - 1) c)

      left : prefix ≡ v / d.q ^ (d.m - 1)
      left = summed.0 ∙ ap (λ n. v / d.q ^ n) all

      left_over : d.q ^ (d.m - 1) ≤ v → 1 ≤ prefix
      left_over h =
          ⊎_elim
          (λ l. let none : v / d.q ^ (d.m - 1) < 1 = omega (arith, left) in absurd (omega (arith, (div-lt_iff_lt-mul (power-some d.q some (d.m - 1))).0 none)))
          (λ l. l)
          (cases_lt prefix 1)

module _ {C X : Type 0} (means : C → X) (f : ℕ → X) where
  -- one more charge at the front of a strip
  pub fill_more : (strip : List C) (n : ℕ) (x : C) → n < length strip → means x ≡ f n →
      map means (take n strip) ≡ table n f → map means (take (n + 1) (set strip n x)) ≡ table (n + 1) f
  fill_more strip n x fits is so_far =
      ap (map means) (take_more_set strip n x fits)
      ∙ map_push means (take n strip) x
      ∙ ap₂ (λ t y. t ++ (y ∷ [])) so_far (is ∙ ap f (sym (zero-add n)))
      ∙ sym (window-append n 1 f 0)

  -- what stands in a filled strip
  pub filled_at : (strip : List C) (n i : ℕ) (x : C) → map means strip ≡ table n f → i < n → x ≡ get_or strip i x → means x ≡ f i
  filled_at strip n i x filled h is =
      let size : length strip ≡ n = sym (length-map strip means) ∙ ap length filled ∙ length-table n f in
      ap means is
      ∙ sym (get_or-map means strip i x (means x) (omega arith))
      ∙ ap (λ t. get_or t i (means x)) filled
      ∙ get_or-table n f (means x) i h

  -- likewise at the front of a strip that is filled so far
  pub filled_so-far : (strip : List C) (n i : ℕ) (x : C) → map means (take n strip) ≡ table n f → i < n → x ≡ get_or strip i x → means x ≡ f i
  filled_so-far strip n i x filled h is = filled_at (take n strip) n i x filled h (is ∙ sym (get_or-take n strip i x h))

module _ {C : Type 0} (K : Kind C) (d : LabelList K.group.Carrier) (strip : List C) (filled : map K.means strip ≡ crossings K 0 d) where
  -- a filled strip has one charge for each word of m - 1 letters
  pub filled-count : length strip ≡ d.q ^ (d.m - 1)
  filled-count = sym (length-map strip K.means) ∙ ap length filled ∙ length-table (d.q ^ (d.m - 1)) (λ v. J K 0 d (word d.q (d.m - 1) v))

-- one more letter of a word, from its last on, in its place
pub write_more : (q n rest : ℕ) (strip : List ℕ) → n < length strip →
    word q n (rest / q) ++ drop n (set strip n (rest % q)) ≡ word q (n + 1) rest ++ drop (n + 1) strip
write_more q n rest strip fits =
    ap (λ t. word q n (rest / q) ++ t) (drop-set strip n (rest % q) fits)
    ∙ sym (append_assoc (word q n (rest / q)) (rest % q ∷ []) (drop (n + 1) strip))
    ∙ ap (λ m. word q m rest ++ drop (n + 1) strip) (sym (add-one n))

pub write_none : (w strip : List ℕ) → w ++ drop (length strip) strip ≡ w
write_none w strip = ap (λ t. w ++ t) (drop_all (length strip) strip (omega arith)) ∙ append-nil w
