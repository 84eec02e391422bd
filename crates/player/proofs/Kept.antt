-- What every ring that is played keeps. Assumes nothing.
use Rattle.std.proofs.Common.{◌≡◌, ℕ, zero, suc, ◌+◌, ◌-◌, ◌/◌, ◌%◌, ◌<◌, ◌≤◌, List, [], ◌∷◌, length, get_or, set, Ok, sym, refl, ap, ◌∙◌, ap₂, mod-lt, mul_comm, add-zero, add-suc, length-set, arith}
use native.Mathlib.Nat.{div-add-mod}
use Rattle.charge.specs.Groups.{Group, Kind, minus}
use Rattle.charge.proofs.Sums.{left_comm, unit-right, neg-add, sum_same, sum-add, telescope}
use Rattle.automaton.specs.Words.{Letters, window, round, cell, before}
use Rattle.automaton.specs.Meanings.{Local, Weights, Lawful, Weighed, weight, next}
use Rattle.automaton.proofs.Rings.{length-table, get_or-table, round-table, window_turn, turns, cell_turn}
use Rattle.automaton.proofs.Steps.{length-next, next_word, site-window}
use Rattle.bench.specs.Laws.{KeepsTotal}
use Rattle.bench.specs.Benches.{bench_of}
use Rattle.bench.specs.Verdicts.{bench_checked}
use Rattle.criterion.specs.Search.{padding, J}
use Rattle.bench.specs.Labels.{rule_label_list}
use Rattle.player.specs.Calls.{PlayerRing, booked, charges, crossing_at, opened, put, stepped}
use Rattle.player.specs.Logs.{arc, ArcsAgree}
use Rattle.player.proofs.Moves.{add_from-minus, balance, site_moves}

pub letters_set : (q : ℕ) (c : List ℕ) (i a : ℕ) → a < q → Letters q c → Letters q (set c i a)
letters_set q [] i a small below j h = below j h
letters_set q (x ∷ c) zero a small below zero h = small
letters_set q (x ∷ c) zero a small below (suc j) h = below (suc j) h
letters_set q (x ∷ c) (suc i) a small below zero h = below 0 (omega arith)
letters_set q (x ∷ c) (suc i) a small below (suc j) h = letters_set q c i a small (λ t l. below (suc t) (omega arith)) j (omega arith)

module _ (G : Group) where
  pub length-booked : (f : ℕ → G.Carrier) (xs : List G.Carrier) → length (booked G f xs) ≡ length xs
  length-booked f xs = length-table (length xs) (λ i. G.add (get_or xs i G.zero) (f i))

  -- what is booked on entries that go round, by a function that does
  booked_at : (f : ℕ → G.Carrier) (xs : List G.Carrier) → 1 ≤ length xs → ((i : ℕ) → f (i + length xs) ≡ f i) → (i : ℕ) →
      round G.zero (booked G f xs) i ≡ G.add (round G.zero xs i) (f i)
  booked_at f xs some turn i =
      let L : ℕ = length xs in
      ap (λ k. get_or (booked G f xs) (i % k) G.zero) (length-booked f xs)
      ∙ get_or-table L (λ i. G.add (get_or xs i G.zero) (f i)) G.zero (i % L) (mod-lt i some)
      ∙ ap (G.add (round G.zero xs i)) (sym (turns f L turn (i / L) (i % L)) ∙ ap f (omega (arith, div-add-mod i L, mul_comm L (i / L))))

  -- crossings booked on both sides of a site
  both_booked : (o x x' t j j' : G.Carrier) →
      G.add (G.add (G.add o (minus G x x')) t) (minus G j j') ≡ G.add (G.add o (minus G (G.add x j) (G.add x' j'))) t
  both_booked o x x' t j j' = simp (minus, neg-add, G.assoc, G.comm, left_comm)

module _ {C : Type 0} (K : Kind C) (r : Local) (d : Weights K.group.Carrier) where
  -- site i has the charge of its opening, what crossed into it less what crossed out of it, and what it was touched by
  abbrev pub SiteAgrees : PlayerRing K.group.Carrier → ℕ → Type 0
  SiteAgrees p i =
      let G = K.group in
      let at : List G.Carrier → ℕ → G.Carrier = round G.zero in
      charges K r d p.cells i ≡ G.add (G.add (at p.opening i) (minus G (at p.crossed i) (at p.crossed (suc i)))) (at p.touched i)

  pub record Kept (p : PlayerRing K.group.Carrier) : Type 0 where
    pub some : 1 ≤ length p.cells
    pub below : Letters r.q p.cells
    pub crossed_long : length p.crossed ≡ length p.cells
    pub touched_long : length p.touched ≡ length p.cells
    pub sites : (i : ℕ) → SiteAgrees p i

  charges_turn : (c : List ℕ) (i : ℕ) → charges K r d c (i + length c) ≡ charges K r d c i
  charges_turn c i =
      site-window K.group d c (i + length c)
      ∙ ap (weight K.group d) (window_turn d.k (cell c) (length c) (cell_turn c) i)
      ∙ sym (site-window K.group d c i)

  crossing_turn : (c : List ℕ) (i : ℕ) → crossing_at K r d c (i + length c) ≡ crossing_at K r d c i
  crossing_turn c i =
      let m : ℕ = r.n + d.k - 2 in
      let cross : List ℕ → K.group.Carrier = J K padding (rule_label_list K.group r d) in
      ap (λ t. cross (window m (cell c) t)) (omega arith) ∙ ap cross (window_turn m (cell c) (length c) (cell_turn c) (before (length c) r.l i))

  pub opened_kept : (c : List ℕ) → 1 ≤ length c → Letters r.q c → Kept (opened K r d c)
  opened_kept c some below =
      let G = K.group in
      let nothing : ℕ → G.Carrier = λ _. G.zero in
      let none_at : (i : ℕ) → round G.zero (opened K r d c).crossed i ≡ G.zero = round-table (length c) nothing G.zero some (λ i. refl) in
      record {
        some = some;
        below = below;
        crossed_long = length-table (length c) nothing;
        touched_long = length-table (length c) nothing;
        sites = λ i. sym
            (ap₂ G.add
            (ap₂ G.add
            (round-table (length c) (charges K r d c) G.zero some (charges_turn c) i)
            (ap₂ (minus G) (none_at i) (none_at (suc i)) ∙ G.cancel G.zero))
            (none_at i)
            ∙ unit-right G (G.add (charges K r d c i) G.zero)
            ∙ unit-right G (charges K r d c i));
      }

  pub put_kept : (p : PlayerRing K.group.Carrier) (i a : ℕ) → a < r.q → Kept p → Kept (put K r d i a p)
  put_kept p i a small k =
      let G = K.group in
      let c : List ℕ = p.cells in
      let c' : List ℕ = set c i a in
      let size : length c' ≡ length c = length-set c i a in
      let gain : ℕ → G.Carrier = λ j. minus G (charges K r d c' j) (charges K r d c j) in
      let gain_turn : (j : ℕ) → gain (j + length p.touched) ≡ gain j =
      λ j. ap (λ n. gain (j + n)) k.touched_long
      ∙ ap₂ (minus G) (ap (λ n. charges K r d c' (j + n)) (sym size) ∙ charges_turn c' j) (charges_turn c j) in
      record {
        some = omega (arith, size, k.some);
        below = letters_set r.q c i a small k.below;
        crossed_long = k.crossed_long ∙ sym size;
        touched_long = length-booked G gain p.touched ∙ k.touched_long ∙ sym size;
        sites = λ j.
            let own : G.Carrier = G.add (round G.zero p.opening j) (minus G (round G.zero p.crossed j) (round G.zero p.crossed (suc j))) in
            add_from-minus G (charges K r d c' j) (charges K r d c j) (gain j) refl
            ∙ ap (λ x. G.add x (gain j)) (k.sites j)
            ∙ G.assoc own (round G.zero p.touched j) (gain j)
            ∙ ap (G.add own) (sym (booked_at G gain p.touched (omega (arith, k.touched_long, k.some)) gain_turn j));
      }

  pub stepped_kept : Lawful r → Weighed d → bench_checked (bench_of K r d) ≡ Ok tt → KeepsTotal K.group r d →
      (p : PlayerRing K.group.Carrier) → Kept p → Kept (stepped K r d p)
  stepped_kept lawful weighed passed keeps p k =
      let G = K.group in
      let c : List ℕ = p.cells in
      let size : length (next r c) ≡ length c = length-next r c in
      let enters : ℕ → G.Carrier = crossing_at K r d c in
      let old : ℕ → G.Carrier = round G.zero p.crossed in
      let crossed : (i : ℕ) → round G.zero (booked G enters p.crossed) i ≡ G.add (old i) (enters i) =
      booked_at G enters p.crossed (omega (arith, k.crossed_long, k.some)) (λ i. ap (λ n. enters (i + n)) k.crossed_long ∙ crossing_turn c i) in
      record {
        some = omega (arith, size, k.some);
        below = (next_word r c (omega (arith, lawful.sizes.0)) lawful.letters).1;
        crossed_long = length-booked G enters p.crossed ∙ k.crossed_long ∙ sym size;
        touched_long = k.touched_long ∙ sym size;
        sites = λ i.
            let o : G.Carrier = round G.zero p.opening i in
            let t : G.Carrier = round G.zero p.touched i in
            site_moves K r d lawful weighed (balance K r d lawful weighed passed keeps) c k.some k.below i
            ∙ ap (λ x. G.add x (minus G (enters i) (enters (suc i)))) (k.sites i)
            ∙ both_booked G o (old i) (old (suc i)) t (enters i) (enters (suc i))
            ∙ ap₂ (λ x y. G.add (G.add o (minus G x y)) t) (sym (crossed i)) (sym (crossed (suc i)));
      }

  -- along an arc the crossings between neighbours cancel
  pub arcs_agree : (p : PlayerRing K.group.Carrier) → Kept p → ArcsAgree K r d p
  arcs_agree p k a n within =
      let G = K.group in
      let o : ℕ → G.Carrier = round G.zero p.opening in
      let x : ℕ → G.Carrier = round G.zero p.crossed in
      let u : ℕ → G.Carrier = round G.zero p.touched in
      let own : ℕ → G.Carrier = λ t. G.add (o (a + t)) (minus G (x (a + t)) (x (a + suc t))) in
      sum_same G (λ t. charges K r d p.cells (a + t)) (λ t. G.add (own t) (u (a + t))) n
      (λ t _. k.sites (a + t) ∙ ap (λ i. G.add (G.add (o (a + t)) (minus G (x (a + t)) (x i))) (u (a + t))) (sym (add-suc a t)))
      ∙ sum-add G own (λ t. u (a + t)) n
      ∙ ap (λ s. G.add s (arc G u a n))
      (sum-add G (λ t. o (a + t)) (λ t. minus G (x (a + t)) (x (a + suc t))) n
      ∙ ap (G.add (arc G o a n)) (telescope G (λ t. x (a + t)) n ∙ ap (λ i. minus G (x i) (x (a + n))) (add-zero a)))
