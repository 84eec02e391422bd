-- One item more of what is read, counted and written. Assumes nothing.
use Rattle.std.proofs.Common.{◌≡◌, ℕ, zero, suc, ◌+◌, ◌-◌, ◌<◌, ◌≤◌, Bool, true, false, not, cond, Option, Some, None, List, [], ◌∷◌, ◌++◌, length, get_or, take, drop, set, is_ok, Ok, Err, Result, sym, refl, ap, ◌∙◌, append_assoc, append-nil, arith, length-append}
use Rattle.std.proofs.lemmas.List.{take_more, flat_map_more, take_more_set, take_all}
use Rattle.std.specs.List.{position_from}
use Rattle.fault.specs.declared.Stop.{Stop}
use Rattle.fault.specs.Refusals.{Refusal, refused_at}
use Rattle.fault.specs.Checks.{each_fits}
use Rattle.fault.specs.Answers.{and_then, strip_after}
use Rattle.preset.specs.Answers.{Parse, many, skipped}
use Rattle.preset.specs.Items.{sent}

-- items before others that are read
abbrev pub ahead : {X : Type 0} → List X → Parse (List X) → Parse (List X)
ahead xs s = and_then s (λ p. Ok (xs ++ p.0, p.1))

ok_left : {X Y : Type 0} (s : Result X Refusal) (f : X → Result Y Refusal) → is_ok (and_then s f) ≡ true → is_ok s ≡ true
ok_left (Ok x) f e = refl
ok_left (Err r) f e = e

module _ {X : Type 0} (read : List ℕ → Parse X) where
  -- the turn i of n, whose item is read
  many_more : (n i : ℕ) (bs : List ℕ) (x : X) (tail : List ℕ) → i < n → Ok (x, tail) ≡ read bs → many read (n - i) bs ≡ ahead (x ∷ []) (many read (n - (i + 1)) tail)
  many_more n i bs x tail h e = let k : n - i ≡ suc (n - (i + 1)) = omega arith in rw (k, sym e)

  skipped-ahead : (xs : List X) (s : Parse (List X)) → skipped (ahead xs s) ≡ skipped s
  skipped-ahead xs (Ok p) = refl
  skipped-ahead xs (Err f) = refl

  pub skipped_more : (n i : ℕ) (bs : List ℕ) (x : X) (tail : List ℕ) → i < n → Ok (x, tail) ≡ read bs → skipped (many read (n - i) bs) ≡ skipped (many read (n - (i + 1)) tail)
  skipped_more n i bs x tail h e = ap skipped (many_more n i bs x tail h e) ∙ skipped-ahead (x ∷ []) (many read (n - (i + 1)) tail)

  -- the turn i of n, whose item is refused
  pub many-stop : (n i : ℕ) (bs : List ℕ) (f : Refusal) → i < n → Err f ≡ read bs → many read (n - i) bs ≡ Err f
  many-stop n i bs f h e = let k : n - i ≡ suc (n - (i + 1)) = omega arith in rw (k, sym e)

  pub skipped-all : (n i : ℕ) (bs : List ℕ) → n ≤ i → skipped (many read (n - i) bs) ≡ Ok (tt, bs)
  skipped-all n i bs h = let k : n - i ≡ 0 = omega arith in rw k

  ok-ahead : (xs : List X) (s : Parse (List X)) → is_ok (ahead xs s) ≡ is_ok s
  ok-ahead xs (Ok p) = refl
  ok-ahead xs (Err f) = refl

  ahead-ahead : (xs ys : List X) (s : Parse (List X)) → ahead xs (ahead ys s) ≡ ahead (xs ++ ys) s
  ahead-ahead xs ys (Ok p) = rw append_assoc
  ahead-ahead xs ys (Err f) = refl

  pub ok_more : (n i : ℕ) (bs : List ℕ) (x : X) (tail : List ℕ) → i < n → Ok (x, tail) ≡ read bs → is_ok (many read (n - i) bs) ≡ true → is_ok (many read (n - (i + 1)) tail) ≡ true
  ok_more n i bs x tail h e r =
      let a = ap (λ (s : Parse (List X)). is_ok s) (many_more n i bs x tail h e) in
      let b = ok-ahead (x ∷ []) (many read (n - (i + 1)) tail) in
      cc

  pub ok-first : (n i : ℕ) (bs : List ℕ) → i < n → is_ok (many read (n - i) bs) ≡ true → is_ok (read bs) ≡ true
  ok-first n i bs h r = let k : n - i ≡ suc (n - (i + 1)) = omega arith in ok_left (read bs) _ (rw k at r)

  -- one item more at the front of a strip
  pub ahead_more : (n i : ℕ) (bs : List ℕ) (x : X) (tail : List ℕ) (strip : List X) (all : Parse (List X)) → i < n → n ≤ length strip → Ok (x, tail) ≡ read bs
      → all ≡ ahead (take i strip) (many read (n - i) bs) → all ≡ ahead (take (i + 1) (set strip i x)) (many read (n - (i + 1)) tail)
  ahead_more n i bs x tail strip all h k e a =
      let m = many_more n i bs x tail h e in
      let b = ahead-ahead (take i strip) (x ∷ []) (many read (n - (i + 1)) tail) in
      let t = take_more_set strip i x (omega arith) in
      cc

  pub ahead_all : (n i : ℕ) (bs : List ℕ) (xs was : List X) (all : Parse (List X)) → n ≤ i → length xs ≡ n
      → all ≡ ahead (take i xs) (many read (n - i) bs) → xs ++ drop n was ≡ strip_after (λ p. p.0) was all
  ahead_all n i bs xs was all k count a =
      let z : n - i ≡ 0 = omega arith in
      let t : take i xs ++ [] ≡ xs = append-nil (take i xs) ∙ take_all i xs (omega arith) in
      let b : all ≡ Ok (xs, bs) = a ∙ rw (z, t) in
      rw (b, count)

module _ {X : Type 0} (sends : X → List ℕ) where
  -- the bytes of a front are no more than those of the whole
  pub sent_front : (n : ℕ) (xs : List X) → length (sent sends (take n xs)) ≤ length (sent sends xs)
  sent_front zero xs = omega arith
  sent_front (suc n) [] = omega arith
  sent_front (suc n) (x ∷ xs) = omega (arith, sent_front n xs, length-append (sends x) (sent sends (take n xs)), length-append (sends x) (sent sends xs))

  module _ (xs : List X) (i : ℕ) (x : X) (within : i < length xs) (is : x ≡ get_or xs i x) where
    pub sent_more : sent sends (take (i + 1) xs) ≡ sent sends (take i xs) ++ sends x
    sent_more = ap (sent sends) (take_more xs i x within) ∙ (rw (sym is) (sym (flat_map_more sends [] (take i xs) x)))

    pub length-sent_more : length (sent sends (take (i + 1) xs)) ≡ length (sent sends (take i xs)) + length (sends x)
    length-sent_more = ap length sent_more ∙ length-append (sent sends (take i xs)) (sends x)

    -- there is room for the item after the others
    pub more_room : (room : ℕ) → length (sent sends xs) ≤ room → length (sent sends (take i xs) ++ sends x) ≤ room
    more_room room h = omega (arith, ap length sent_more, sent_front (i + 1) xs)

-- the answer of a test of each item, by the index of the first that is not allowed
abbrev pub first_refused : Stop → Option ℕ → Result (Unit {0}) Refusal
first_refused stop None = Ok tt
first_refused stop (Some i) = Err (refused_at stop i)

pub each_fits-is : {X : Type 0} (fits : X → Bool) (stop : Stop) (i : ℕ) (xs : List X) → each_fits fits stop i xs ≡ first_refused stop (position_from (λ x. not (fits x)) i xs)
each_fits-is fits stop i [] = refl
each_fits-is fits stop i (x ∷ xs) = each (fits x) (each_fits-is fits stop (i + 1) xs)
  where
    each : (t : Bool) → each_fits fits stop (i + 1) xs ≡ first_refused stop (position_from (λ y. not (fits y)) (i + 1) xs)
        → cond t (each_fits fits stop (i + 1) xs) (Err (refused_at stop i)) ≡ first_refused stop (cond (not t) (Some i) (position_from (λ y. not (fits y)) (i + 1) xs))
    each true e = e
    each false e = refl
