-- Sites up to a site, one after another, and those of which the window holds a cell. Assumes nothing.
use Rattle.std.proofs.Common.{◌≢◌, ◌≡◌, ℕ, ◌+◌, ◌-◌, ◌%◌, ◌<◌, ◌≤◌, min, List, length, get_or, set, sym, ap, ◌∙◌, ap₂, subst, ⊎_elim, arith, length-set}
use native.Mathlib.Nat.{mod-eq_of_lt, mod-eq-sub-mod}
use Rattle.std.proofs.lemmas.Bool.{cases_lt}
use Rattle.std.proofs.lemmas.Bool.Decides.{nat_tests}
use Rattle.std.proofs.lemmas.Grind.{get_or-set_at}
use Rattle.std.proofs.lemmas.List.{ext_get_or, get_or-set_other}
use Rattle.charge.specs.Groups.{Group, Kind, minus}
use Rattle.charge.proofs.Sums.{unit-right, minus_from-same}
use Rattle.automaton.specs.Words.{cell}
use Rattle.automaton.specs.Meanings.{Local, Weights, weight}
use Rattle.automaton.proofs.Rings.{window_same, length-table, get_or-table}
use Rattle.automaton.proofs.Steps.{site-window}
use Rattle.player.specs.Calls.{booked, charges}
use Rattle.player.specs.Near.{back, up_to}

-- one site alone stands so many sites before another
back_only : (L i j m : ℕ) → i < L → j < L → m < L → back L i j ≡ back L i m → j ≡ m
back_only L i j m hi hj hm e = grind (arith, nat_tests)

module _ (G : Group) (L i n : ℕ) (f : ℕ → G.Carrier) (j : ℕ) where
  near : back L i j < n → up_to G L i n f j ≡ f j
  near h = grind (arith, nat_tests)

  far : n ≤ back L i j → up_to G L i n f j ≡ G.zero
  far h = grind (arith, nat_tests)

module _ (G : Group) (L i n j : ℕ) (f : ℕ → G.Carrier) (old : List G.Carrier) (size : length old ≡ L) where
  abbrev so_far : ℕ → List G.Carrier
  so_far t = booked G (up_to G L i t f) old

  length-so_far : (t : ℕ) → length (so_far t) ≡ L
  length-so_far t = length-table (length old) (λ m. G.add (get_or old m G.zero) (up_to G L i t f m)) ∙ size

  at : (t m : ℕ) → m < L → get_or (so_far t) m G.zero ≡ G.add (get_or old m G.zero) (up_to G L i t f m)
  at t m h = get_or-table (length old) (λ m. G.add (get_or old m G.zero) (up_to G L i t f m)) G.zero m (omega (arith, size))

  -- one site more that is booked
  pub near_more : (new : List G.Carrier) (x : G.Carrier) → i < L → j < L → back L i j ≡ n → x ≡ f j →
      new ≡ set (so_far n) j (G.add (get_or (so_far n) j G.zero) x) → new ≡ so_far (n + 1)
  near_more new x hi hj is same written =
      written
      ∙ ext_get_or G.zero (set (so_far n) j sum) (so_far (n + 1))
      (length-set (so_far n) j sum ∙ length-so_far n ∙ sym (length-so_far (n + 1)))
      (λ m h.
      let hm : m < L = omega (arith, h, length-set (so_far n) j sum, length-so_far n) in
      ⊎_elim
      (λ l. other m hm (λ e. omega (arith, l, is, ap (back L i) e)) ∙ ap (G.add (get_or old m G.zero)) (near G L i n f m l ∙ sym (near G L i (n + 1) f m (omega (arith, l)))) ∙ sym (at (n + 1) m hm))
      (λ l. ⊎_elim
      (λ k. other m hm (λ e. omega (arith, k, is, ap (back L i) e)) ∙ ap (G.add (get_or old m G.zero)) (far G L i n f m l ∙ sym (far G L i (n + 1) f m (omega (arith, k)))) ∙ sym (at (n + 1) m hm))
      (λ k.
      let here : j ≡ m = back_only L i j m hi hj hm (omega (arith, is, l, k)) in
      get_or-set_at (so_far n) j m sum G.zero (sym here) (omega (arith, length-so_far n))
      ∙ ap (λ y. G.add y x) (at n j hj ∙ ap (G.add (get_or old j G.zero)) (far G L i n f j (omega (arith, is))) ∙ unit-right G (get_or old j G.zero))
      ∙ ap (G.add (get_or old j G.zero)) (same ∙ sym (near G L i (n + 1) f j (omega (arith, is))))
      ∙ sym (at (n + 1) j hj)
      ∙ ap (λ k. get_or (so_far (n + 1)) k G.zero) here)
      (cases_lt n (back L i m)))
      (cases_lt (back L i m) n))
    where
      sum : G.Carrier
      sum = G.add (get_or (so_far n) j G.zero) x

      other : (m : ℕ) → m < L → (m ≢ j) → get_or (set (so_far n) j sum) m G.zero ≡ G.add (get_or old m G.zero) (up_to G L i n f m)
      other m hm differs = get_or-set_other (so_far n) j m sum G.zero differs ∙ at n m hm

-- before the first site nothing is booked
pub near_none : (G : Group) (L i : ℕ) (f : ℕ → G.Carrier) (old : List G.Carrier) → old ≡ booked G (up_to G L i 0 f) old
near_none G L i f old =
    let sums : ℕ → G.Carrier = λ m. G.add (get_or old m G.zero) (up_to G L i 0 f m) in
    ext_get_or G.zero old (booked G (up_to G L i 0 f) old) (sym (length-table (length old) sums))
    (λ m h. sym (get_or-table (length old) sums G.zero m h ∙ ap (G.add (get_or old m G.zero)) (far G L i 0 f m (omega arith)) ∙ unit-right G (get_or old m G.zero)))

-- a cell that stands after a site, and the window of a site that stands far enough before it
passes : (L i j k t : ℕ) → i < L → j < L → min k L ≤ back L i j → t < k → (j + t) % L ≡ i → ⊥
passes L i j k t hi hj apart h e =
    ⊎_elim
    (λ l. let here : (j + t) % L ≡ j + t = mod-eq_of_lt l in grind (arith, nat_tests, here))
    (λ l. let there : (j + t) % L ≡ j + t - L = mod-eq-sub-mod l ∙ mod-eq_of_lt (grind (arith, nat_tests, apart)) in grind (arith, nat_tests, there))
    (cases_lt (j + t) L)

-- a site whose window does not hold a cell has the same charge whatever letter is put there
pub charge_far : {C : Type 0} (K : Kind C) (r : Local) (d : Weights K.group.Carrier) (c : List ℕ) (i a j : ℕ) → i < length c → j < length c →
    min d.k (length c) ≤ back (length c) i j → charges K r d (set c i a) j ≡ charges K r d c j
charge_far K r d c i a j hi hj apart =
    site-window K.group d (set c i a) j
    ∙ ap (weight K.group d) (window_same d.k (cell (set c i a)) (cell c) j j (λ t h.
    let L : ℕ = length c in
    ap (λ n. get_or (set c i a) ((j + t) % n) 0) (length-set c i a)
    ∙ get_or-set_other c i ((j + t) % L) a 0 (λ e. passes L i j d.k t hi hj apart h e)))
    ∙ sym (site-window K.group d c j)

-- what a touch of a cell books at a site, near or far
pub near_gains : {C : Type 0} (K : Kind C) (r : Local) (d : Weights K.group.Carrier) (c : List ℕ) (L i a j : ℕ) → length c ≡ L → i < L → j < L →
    K.group.add (up_to K.group L i (min d.k L) (λ m. K.group.neg (charges K r d c m)) j) (up_to K.group L i (min d.k L) (charges K r d (set c i a)) j)
    ≡ minus K.group (charges K r d (set c i a) j) (charges K r d c j)
near_gains K r d c L i a j size hi hj =
    let G = K.group in
    let before : ℕ → G.Carrier = charges K r d c in
    let after : ℕ → G.Carrier = charges K r d (set c i a) in
    let n : ℕ = min d.k L in
    ⊎_elim
    (λ l. ap₂ G.add (near G L i n (λ m. G.neg (before m)) j l) (near G L i n after j l) ∙ G.comm (G.neg (before j)) (after j))
    (λ l.
    let far_one : up_to G L i n (λ m. G.neg (before m)) j ≡ G.zero = far G L i n (λ m. G.neg (before m)) j l in
    let far_two : up_to G L i n after j ≡ G.zero = far G L i n after j l in
    ap₂ G.add far_one far_two
    ∙ G.unit G.zero
    ∙ sym (minus_from-same G (after j) (before j) (charge_far K r d c i a j (omega (arith, size)) (omega (arith, size)) (subst (λ k. min d.k k ≤ back k i j) (sym size) l))))
    (cases_lt (back L i j) n)
