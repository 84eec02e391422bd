-- What a touch leaves. Assumes nothing.
use Rattle.std.proofs.Common.{◌≡◌, ℕ, ◌<◌, ◌≤◌, List, [], ◌++◌, length, map, get_or, take, drop, set, Ok, sym, ap, ◌∙◌, subst, ap₂, arith}
use Rattle.std.proofs.lemmas.List.{ext_get_or, take-append-drop, drop-set-lt, length-take-le, length-map, take_at}
use Rattle.std.proofs.Math.Seq.{take-set-lt}
use Rattle.charge.specs.Groups.{Group, Kind, minus}
use Rattle.automaton.specs.Meanings.{Local, Weights}
use Rattle.automaton.proofs.Rings.{get_or-table}
use Rattle.criterion.specs.ChargeStrips.{FrontMeans}
use Rattle.player.specs.Calls.{charges, booked, call_checked, Does}
use Rattle.player.specs.Calls.PlayerCall.{touches}
use Rattle.player.specs.Calls.PlayerAnswer.{done}
use Rattle.player.specs.Promises.{meant, touch_strips}
use Rattle.player.proofs.Books.{front-means, front-past}
use Rattle.player.proofs.Kept.{length-booked}
use Rattle.player.proofs.Passed.{touches_fit}
use Rattle.player.proofs.Works.{does_work}

-- a letter that is put into the front of a strip
set-front : {X : Type 0} (n : ℕ) (xs : List X) (i : ℕ) (x : X) → i < n → set (take n xs) i x ++ drop n xs ≡ set xs i x
set-front n xs i x h = ap₂ ◌++◌ (sym (take-set-lt n xs i x h)) (sym (drop-set-lt n xs i x h)) ∙ take-append-drop n (set xs i x)

module _ (G : Group) (first second both : ℕ → G.Carrier) (xs : List G.Carrier) (sum : (i : ℕ) → i < length xs → G.add (first i) (second i) ≡ both i) where
  -- some charges are booked, and then others
  pub booked-twice : booked G second (booked G first xs) ≡ booked G both xs
  booked-twice =
      let once = booked G first xs in
      let size : length once ≡ length xs = length-booked G first xs in
      ext_get_or G.zero (booked G second once) (booked G both xs)
      (length-booked G second once ∙ size ∙ sym (length-booked G both xs))
      (λ i h.
      let within : i < length xs = omega (arith, length-booked G second once, size) in
      get_or-table (length once) (λ j. G.add (get_or once j G.zero) (second j)) G.zero i (omega (arith, size))
      ∙ ap (λ x. G.add x (second i)) (get_or-table (length xs) (λ j. G.add (get_or xs j G.zero) (first j)) G.zero i within)
      ∙ G.assoc (get_or xs i G.zero) (first i) (second i)
      ∙ ap (G.add (get_or xs i G.zero)) (sum i within)
      ∙ sym (get_or-table (length xs) (λ j. G.add (get_or xs j G.zero) (both j)) G.zero i within))

module _ {C : Type 0} (K : Kind C) (r : Local) (d : Weights K.group.Carrier) (L i a : ℕ) (cells cells' : List ℕ) (touched touched' : List C) where
  -- what is booked
  abbrev gains : List K.group.Carrier
  gains =
      booked K.group (λ j. minus K.group (charges K r d (set (take L cells) i a) j) (charges K r d (take L cells) j)) (take L (map K.means touched))

  module _ (ready : call_checked r.q L (touches i a) (meant K (touch_strips cells touched)) ≡ Ok tt) (fronts : FrontMeans K gains touched touched') where
    size : length gains ≡ L
    size =
        length-booked K.group (λ j. minus K.group (charges K r d (set (take L cells) i a) j) (charges K r d (take L cells) j)) (take L (map K.means touched))
        ∙ length-take-le L (map K.means touched) ((touches_fit r.q L i a (meant K (touch_strips cells touched)) ready).1)

    pub touches_does : cells' ≡ set cells i a → Does K r d L (touches i a) (meant K (touch_strips cells touched)) done (meant K (touch_strips cells' touched'))
    touches_does c =
        let fit = touches_fit r.q L i a (meant K (touch_strips cells touched)) ready in
        let new : set (take L cells) i a ++ drop L cells ≡ cells' = set-front L cells i a fit.2 ∙ sym c in
        does_work K r d L (touches i a) (meant K (touch_strips cells touched)) done (meant K (touch_strips cells' touched')) ready
        (λ j. record {
          said = done;
          left = record {
            cells = new j;
            spare = [];
            opening = take-append-drop L [] j;
            crossed = take-append-drop L [] j;
            touched = sym (front-means K gains L touched touched' fronts size) j;
          };
        })

    pub touches_past : drop L touched' ≡ drop L touched
    touches_past = front-past K gains L touched touched' fronts size

-- the same on the front of a strip
pub front-twice : {C : Type 0} (K : Kind C) (first second both : ℕ → K.group.Carrier) (L : ℕ) (old mid new : List C) → L ≤ length old →
    ((i : ℕ) → i < L → K.group.add (first i) (second i) ≡ both i) →
    FrontMeans K (booked K.group first (take L (map K.means old))) old mid →
    FrontMeans K (booked K.group second (take L (map K.means mid))) mid new →
    FrontMeans K (booked K.group both (take L (map K.means old))) old new
front-twice K first second both L old mid new room sum one two =
    let now = subst (λ t. FrontMeans K t mid new) (ap (booked K.group second) middle ∙ booked-twice K.group first second both xs (λ i h. sum i (omega (arith, h, front)))) two in
    (now.0, now.1 ∙ ap (λ n. drop n mid) size' ∙ front-past K once L old mid one size ∙ ap (λ n. drop n old) (sym size'))
  where
    xs : List K.group.Carrier
    xs = take L (map K.means old)

    front : length xs ≡ L
    front = length-take-le L (map K.means old) (omega (arith, length-map old K.means))

    once : List K.group.Carrier
    once = booked K.group first xs

    last : List K.group.Carrier
    last = booked K.group both xs

    size : length once ≡ L
    size = length-booked K.group first xs ∙ front

    size' : length last ≡ L
    size' = length-booked K.group both xs ∙ front

    middle : take L (map K.means mid) ≡ once
    middle = ap (take L) (front-means K once L old mid one size) ∙ take_at once (drop L (map K.means old)) L size
