-- What the laws of a commutative group give, and sums. Assumes nothing.
use Rattle.std.proofs.Common.{◌≡◌, ℕ, zero, suc, ◌+◌, ◌<◌, sym, refl, ap, ◌∙◌, ap₂, add-zero, add-suc, zero-add, add-one, arith}
use Rattle.charge.specs.Groups.{Group, minus, sum_over}

module _ (G : Group) where
  pub left_comm : (x y z : G.Carrier) → G.add x (G.add y z) ≡ G.add y (G.add x z)
  left_comm x y z = sym (G.assoc x y z) ∙ ap (λ t. G.add t z) (G.comm x y) ∙ G.assoc y x z

  pub unit-right : (x : G.Carrier) → G.add x G.zero ≡ x
  unit-right x = G.comm x G.zero ∙ G.unit x

  -- x + y - y
  add-minus : (x y : G.Carrier) → minus G (G.add x y) y ≡ x
  add-minus x y = G.assoc x y (G.neg y) ∙ ap (G.add x) (G.cancel y) ∙ unit-right x

  pub cancel_right : (x y z : G.Carrier) → G.add x z ≡ G.add y z → x ≡ y
  cancel_right x y z e = sym (add-minus x z) ∙ ap (λ t. minus G t z) e ∙ add-minus y z

  pub interchange : (a b c d : G.Carrier) → G.add (G.add a b) (G.add c d) ≡ G.add (G.add a c) (G.add b d)
  interchange a b c d = simp (G.assoc, left_comm)

  -- an element has one opposite
  pub neg_is : (x y : G.Carrier) → G.add x y ≡ G.zero → y ≡ G.neg x
  neg_is x y e = cancel_right y (G.neg x) x (G.comm y x ∙ e ∙ sym (G.cancel x) ∙ G.comm x (G.neg x))

  pub neg-zero : G.neg G.zero ≡ G.zero
  neg-zero = sym (neg_is G.zero G.zero (G.unit G.zero))

  pub neg-neg : (x : G.Carrier) → G.neg (G.neg x) ≡ x
  neg-neg x = sym (neg_is (G.neg x) x (G.comm (G.neg x) x ∙ G.cancel x))

  pub neg-add : (x y : G.Carrier) → G.neg (G.add x y) ≡ G.add (G.neg x) (G.neg y)
  neg-add x y = sym (neg_is (G.add x y) (G.add (G.neg x) (G.neg y))
      (interchange x y (G.neg x) (G.neg y) ∙ ap (λ t. G.add t (minus G y y)) (G.cancel x) ∙ ap (G.add G.zero) (G.cancel y) ∙ G.unit G.zero))

  -- (x - y) + (y - z)
  minus_chain : (x y z : G.Carrier) → G.add (minus G x y) (minus G y z) ≡ minus G x z
  minus_chain x y z =
      G.assoc x (G.neg y) (minus G y z)
      ∙ ap (G.add x) (sym (G.assoc (G.neg y) y (G.neg z)) ∙ ap (λ t. G.add t (G.neg z)) (G.comm (G.neg y) y ∙ G.cancel y) ∙ G.unit (G.neg z))

  -- a difference is zero exactly when its two sides are equal
  pub same_from-minus : (x y : G.Carrier) → minus G x y ≡ G.zero → x ≡ y
  same_from-minus x y e = cancel_right x y (G.neg y) (e ∙ sym (G.cancel y))

  pub minus_from-same : (x y : G.Carrier) → x ≡ y → minus G x y ≡ G.zero
  minus_from-same x y e = ap (λ t. minus G t y) e ∙ G.cancel y

  -- (x + z) - (y + z)
  pub minus-both : (x y z : G.Carrier) → minus G (G.add x z) (G.add y z) ≡ minus G x y
  minus-both x y z =
      ap (G.add (G.add x z)) (neg-add y z) ∙ interchange x z (G.neg y) (G.neg z) ∙ ap (G.add (minus G x y)) (G.cancel z) ∙ unit-right (minus G x y)

  -- x - (y - z)
  pub minus_minus : (x y z : G.Carrier) → minus G x (minus G y z) ≡ G.add (minus G x y) z
  minus_minus x y z = simp (minus, neg-add, neg-neg, G.assoc)

  -- one term more
  pub sum_more : (f : ℕ → G.Carrier) (n : ℕ) (s x : G.Carrier) → s ≡ sum_over G f n → x ≡ f n → G.add s x ≡ sum_over G f (n + 1)
  sum_more f n s x e h = ap₂ G.add e h ∙ sym (ap (sum_over G f) (add-one n))

  pub sum_same : (f h : ℕ → G.Carrier) (n : ℕ) → ((i : ℕ) → i < n → f i ≡ h i) → sum_over G f n ≡ sum_over G h n
  sum_same f h zero e = refl
  sum_same f h (suc n) e =
      ap (λ t. G.add t (f n)) (sum_same f h n (λ i below. e i (omega arith))) ∙ ap (G.add (sum_over G h n)) (e n (omega arith))

  pub sum-zero : (f : ℕ → G.Carrier) (n : ℕ) → ((i : ℕ) → i < n → f i ≡ G.zero) → sum_over G f n ≡ G.zero
  sum-zero f zero e = refl
  sum-zero f (suc n) e =
      ap (λ t. G.add t (f n)) (sum-zero f n (λ i below. e i (omega arith))) ∙ G.unit (f n) ∙ e n (omega arith)

  pub sum-add : (f h : ℕ → G.Carrier) (n : ℕ) → sum_over G (λ i. G.add (f i) (h i)) n ≡ G.add (sum_over G f n) (sum_over G h n)
  sum-add f h zero = sym (G.unit G.zero)
  sum-add f h (suc n) =
      ap (λ t. G.add t (G.add (f n) (h n))) (sum-add f h n) ∙ interchange (sum_over G f n) (sum_over G h n) (f n) (h n)

  pub sum-neg : (f : ℕ → G.Carrier) (n : ℕ) → sum_over G (λ i. G.neg (f i)) n ≡ G.neg (sum_over G f n)
  sum-neg f zero = sym neg-zero
  sum-neg f (suc n) = ap (λ t. G.add t (G.neg (f n))) (sum-neg f n) ∙ sym (neg-add (sum_over G f n) (f n))

  pub sum-minus : (f h : ℕ → G.Carrier) (n : ℕ) → sum_over G (λ i. minus G (f i) (h i)) n ≡ minus G (sum_over G f n) (sum_over G h n)
  sum-minus f h n = sum-add f (λ i. G.neg (h i)) n ∙ ap (G.add (sum_over G f n)) (sum-neg h n)

  -- a sum taken apart after its first p terms
  pub sum-append : (f : ℕ → G.Carrier) (p n : ℕ) → sum_over G f (p + n) ≡ G.add (sum_over G f p) (sum_over G (λ i. f (p + i)) n)
  sum-append f p zero = ap (sum_over G f) (add-zero p) ∙ sym (unit-right (sum_over G f p))
  sum-append f p (suc n) =
      ap (sum_over G f) (add-suc p n) ∙ ap (λ t. G.add t (f (p + n))) (sum-append f p n) ∙ G.assoc (sum_over G f p) (sum_over G (λ i. f (p + i)) n) (f (p + n))

  -- a sum's first term taken apart
  pub sum_first : (f : ℕ → G.Carrier) (n : ℕ) → sum_over G f (suc n) ≡ G.add (f 0) (sum_over G (λ i. f (suc i)) n)
  sum_first f zero = G.comm G.zero (f 0)
  sum_first f (suc n) = ap (λ t. G.add t (f (suc n))) (sum_first f n) ∙ G.assoc (f 0) (sum_over G (λ i. f (suc i)) n) (f (suc n))

  sum_turn_one : (f : ℕ → G.Carrier) (n : ℕ) → f n ≡ f 0 → sum_over G (λ i. f (suc i)) n ≡ sum_over G f n
  sum_turn_one f n e =
      cancel_right (sum_over G (λ i. f (suc i)) n) (sum_over G f n) (f 0)
      (G.comm (sum_over G (λ i. f (suc i)) n) (f 0) ∙ sym (sum_first f n) ∙ ap (G.add (sum_over G f n)) e)

  -- a sum over one period may start at any place
  pub sum_turn : (f : ℕ → G.Carrier) (n : ℕ) → ((i : ℕ) → f (i + n) ≡ f i) → (l : ℕ) → sum_over G (λ i. f (i + l)) n ≡ sum_over G f n
  sum_turn f n e zero = sum_same (λ i. f (i + zero)) f n (λ i _. ap f (add-zero i))
  sum_turn f n e (suc l) =
      sum_same (λ i. f (i + suc l)) (λ i. f (suc i + l)) n (λ i _. ap f (omega arith))
      ∙ sum_turn_one (λ i. f (i + l)) n (ap f (omega arith) ∙ e l ∙ ap f (sym (zero-add l)))
      ∙ sum_turn f n e l

  -- in a sum of differences of neighbours only the ends are left
  pub telescope : (f : ℕ → G.Carrier) (n : ℕ) → sum_over G (λ i. minus G (f i) (f (suc i))) n ≡ minus G (f 0) (f n)
  telescope f zero = sym (G.cancel (f 0))
  telescope f (suc n) = ap (λ t. G.add t (minus G (f n) (f (suc n)))) (telescope f n) ∙ minus_chain (f 0) (f n) (f (suc n))
