-- Charges that are written and booked one site after another. Assumes nothing.
use Rattle.std.proofs.Common.{◌≡◌, ℕ, ◌+◌, ◌-◌, ◌<◌, ◌≤◌, List, [], ◌∷◌, ◌++◌, map, length, get_or, take, drop, set, sym, ap, ◌∙◌, subst, ap₂, add-zero, arith}
use Rattle.std.proofs.Math.Seq.{take-set-lt}
use Rattle.std.proofs.lemmas.List.{map-append, drop-map, take-map, take-append-drop, length-map, length-take, length-take-le, length-drop, get_or-take, get_or-drop, take_more_set, drop-set-lt, drop-drop}
use Rattle.charge.specs.Groups.{Kind}
use Rattle.automaton.specs.Words.{table}
use Rattle.automaton.proofs.Rings.{length-table, window-append, window_same}
use Rattle.criterion.specs.ChargeStrips.{FrontMeans}
use Rattle.player.specs.Calls.{booked}
use Rattle.player.specs.Near.{back, up_to}
use Rattle.player.specs.Promises.{Books}
use Rattle.player.proofs.Kept.{length-booked}
use Rattle.player.proofs.Near.{near_none, near_more}

-- what stays past an index stays past a later one
pub past-later : {X : Type 0} (n m : ℕ) (old new : List X) → n ≤ m → drop n new ≡ drop n old → drop m new ≡ drop m old
past-later n m old new less e =
    ap (λ k. drop k new) split ∙ sym (drop-drop (m - n) n new) ∙ ap (drop (m - n)) e ∙ drop-drop (m - n) n old ∙ ap (λ k. drop k old) (sym split)
  where
    split : m ≡ n + (m - n)
    split = omega arith

-- what is past an entry that is written stays
pub past-set : {X : Type 0} (mid old : List X) (i : ℕ) (x : X) → drop i mid ≡ drop i old → drop (i + 1) (set mid i x) ≡ drop (i + 1) old
past-set mid old i x e = drop-set-lt (i + 1) mid i x (omega arith) ∙ past-later i (i + 1) old mid (omega arith) e

module _ {C : Type 0} (K : Kind C) (xs : List K.group.Carrier) (n : ℕ) (old new : List C) where
  -- a strip with n charges at its front that mean xs, whose other charges stay
  pub front-of : map K.means (take n new) ≡ xs → drop n new ≡ drop n old → length xs ≡ n → FrontMeans K xs old new
  front-of front rest size = subst (λ k. (map K.means (take k new) ≡ xs) × (drop k new ≡ drop k old)) (sym size) (front, rest)

  module _ (fronts : FrontMeans K xs old new) (size : length xs ≡ n) where
    pub front-taken : map K.means (take n new) ≡ xs
    front-taken = subst (λ k. map K.means (take k new) ≡ xs) size fronts.0

    pub front-past : drop n new ≡ drop n old
    front-past = subst (λ k. drop k new ≡ drop k old) size fronts.1

    -- the strip by what its charges mean
    pub front-means : map K.means new ≡ xs ++ drop n (map K.means old)
    front-means =
        ap (map K.means) (sym (take-append-drop n new))
        ∙ map-append K.means (take n new) (drop n new)
        ∙ ap₂ ◌++◌ front-taken (ap (map K.means) front-past ∙ sym (drop-map K.means n old))

    front-long : n ≤ length old → length new ≡ length old
    front-long room =
        omega (arith, room, size, length-map (take n new) K.means, ap length front-taken, length-take n new, length-drop n new, length-drop n old, ap length front-past)

-- one charge more at the front
pub front_more : {C : Type 0} (K : Kind C) (g : ℕ → K.group.Carrier) (old mid new : List C) (i : ℕ) → i < length old → map K.means new ≡ set (map K.means mid) i (g i) →
    drop (i + 1) new ≡ drop (i + 1) mid → FrontMeans K (table i g) old mid → FrontMeans K (table (i + 1) g) old new
front_more K g old mid new i h written rest fronts =
    front-of K (table (i + 1) g) (i + 1) old new
    (sym (take-map K.means (i + 1) new)
    ∙ ap (take (i + 1)) written
    ∙ take_more_set (map K.means mid) i (g i) (omega (arith, h, length-map mid K.means, front-long K (table i g) i old mid fronts size (omega (arith, h))))
    ∙ ap₂ (λ t y. t ++ (y ∷ [])) (take-map K.means i mid ∙ front-taken K (table i g) i old mid fronts size) (ap g (omega arith))
    ∙ sym (window-append i 1 g 0))
    (rest ∙ past-later i (i + 1) old mid (omega arith) (front-past K (table i g) i old mid fronts size))
    (length-table (i + 1) g)
  where
    size : length (table i g) ≡ i
    size = length-table i g

module _ {C : Type 0} (K : Kind C) (L i : ℕ) (f : ℕ → K.group.Carrier) (old : List C) (room : L ≤ length old) where
  abbrev front : List K.group.Carrier
  front = take L (map K.means old)

  front-size : length front ≡ L
  front-size = length-take-le L (map K.means old) (omega (arith, room, length-map old K.means))

  -- the ring's charges once the t sites up to site i are booked
  abbrev near : ℕ → List K.group.Carrier
  near t = booked K.group (up_to K.group L i t f) front

  near-size : (t : ℕ) → length (near t) ≡ L
  near-size t = length-booked K.group (up_to K.group L i t f) front ∙ front-size

  -- before the first site
  pub book_none : Books K L (up_to K.group L i 0 f) old old
  book_none = front-of K (near 0) L old old (sym (take-map K.means L old) ∙ near_none K.group L i f front) (λ j. drop L old) (near-size 0)

  -- one site more that is booked
  pub book_more : (mid new : List C) (j t : ℕ) (x : C) → i < L → j < L → back L i j ≡ t → K.means x ≡ f j →
      map K.means new ≡ set (map K.means mid) j (K.group.add (get_or (map K.means mid) j K.group.zero) (K.means x)) → drop (j + 1) new ≡ drop (j + 1) mid →
      Books K L (up_to K.group L i t f) old mid → Books K L (up_to K.group L i (t + 1) f) old new
  book_more mid new j t x hi hj is same written rest books =
      front-of K (near (t + 1)) L old new
      (near_more K.group L i t j f front front-size (map K.means (take L new)) (K.means x) hi hj is same
      (sym (take-map K.means L new)
      ∙ ap (take L) written
      ∙ take-set-lt L (map K.means mid) j (K.group.add (get_or (map K.means mid) j K.group.zero) (K.means x)) hj
      ∙ ap₂ (λ xs y. set xs j (K.group.add y (K.means x))) so_far (sym (get_or-take L (map K.means mid) j K.group.zero hj) ∙ ap (λ xs. get_or xs j K.group.zero) so_far)))
      (past-later (j + 1) L mid new (omega (arith, hj)) rest ∙ front-past K (near t) L old mid books (near-size t))
      (near-size (t + 1))
    where
      so_far : take L (map K.means mid) ≡ near t
      so_far = take-map K.means L mid ∙ front-taken K (near t) L old mid books (near-size t)

module _ {C : Type 0} (K : Kind C) (f : ℕ → K.group.Carrier) (old : List C) where
  -- the charge of a site once it is booked
  abbrev sum : ℕ → K.group.Carrier
  sum j = K.group.add (get_or (map K.means old) j K.group.zero) (f j)

  front-booked : (n : ℕ) → n ≤ length old → booked K.group f (take n (map K.means old)) ≡ table n sum
  front-booked n room =
      let xs = map K.means old in
      ap (λ k. table k (λ j. K.group.add (get_or (take n xs) j K.group.zero) (f j))) (length-take-le n xs (omega (arith, room, length-map old K.means)))
      ∙ window_same n (λ j. K.group.add (get_or (take n xs) j K.group.zero) (f j)) sum 0 0
      (λ t h. ap (λ y. K.group.add y (f (0 + t))) (get_or-take n xs (0 + t) K.group.zero (omega (arith, h))))

  -- one site more of the first that are booked
  pub book_next : (mid new : List C) (i : ℕ) (x : C) → i < length old → K.means x ≡ f i →
      map K.means new ≡ set (map K.means mid) i (K.group.add (get_or (map K.means mid) i K.group.zero) (K.means x)) → drop (i + 1) new ≡ drop (i + 1) mid →
      Books K i f old mid → Books K (i + 1) f old new
  book_next mid new i x h is written rest books =
      let fronts : FrontMeans K (table i sum) old mid = subst (λ ys. FrontMeans K ys old mid) (front-booked i (omega (arith, h))) books in
      let past : drop i (map K.means mid) ≡ drop i (map K.means old) =
      drop-map K.means i mid ∙ ap (map K.means) (front-past K (table i sum) i old mid fronts (length-table i sum)) ∙ sym (drop-map K.means i old)
      in
      let same : get_or (map K.means mid) i K.group.zero ≡ get_or (map K.means old) i K.group.zero =
      ap (λ n. get_or (map K.means mid) n K.group.zero) (sym (add-zero i))
      ∙ sym (get_or-drop i (map K.means mid) 0 K.group.zero)
      ∙ ap (λ ys. get_or ys 0 K.group.zero) past
      ∙ get_or-drop i (map K.means old) 0 K.group.zero
      ∙ ap (λ n. get_or (map K.means old) n K.group.zero) (add-zero i)
      in
      subst (λ ys. FrontMeans K ys old new) (sym (front-booked (i + 1) (omega (arith, h))))
      (front_more K sum old mid new i h (written ∙ ap (set (map K.means mid) i) (ap₂ K.group.add same is)) rest fronts)
