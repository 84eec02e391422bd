-- Entries written to the front of a strip one after another. Assumes nothing.
use Rattle.std.proofs.Common.{◌≡◌, ℕ, ◌+◌, ◌-◌, ◌<◌, ◌≤◌, List, [], ◌∷◌, ◌++◌, length, get_or, take, drop, set, sym, refl, ap, ◌∙◌, append_assoc, append-nil, arith, length-append, length-drop}
use borrow.Rule.Slice.PartMut.{put_mid}
use Rattle.std.proofs.lemmas.List.{length_push, drop_more, set_at, take_at, drop_at, drop-drop, take_rest, nil_from_length}
use Rattle.fault.specs.Answers.{at_front}

-- one entry more
pub front_more : {X : Type 0} (strip bs : List X) (x : X) → length bs < length strip → set (at_front bs strip) (length bs) x ≡ at_front (bs ++ (x ∷ [])) strip
front_more {X} strip bs x h =
    let n = length bs in
    let d = drop_more strip n x h in
    let s = set_at bs (get_or strip n x) (drop (n + 1) strip) x n refl in
    let f = append_assoc bs (x ∷ []) (drop (n + 1) strip) in
    let l = length_push bs x in
    cc

-- a list after another, written to the rest of the strip
pub front-front : {X : Type 0} (strip bs cs : List X) → take (length bs) (at_front bs strip) ++ at_front cs (drop (length bs) (at_front bs strip)) ≡ at_front (bs ++ cs) strip
front-front {X} strip bs cs =
    let n = length bs in
    let t = take_at bs (drop n strip) n refl in
    let d = drop_at bs (drop n strip) n refl in
    let e : drop (length cs) (drop n strip) ≡ drop (length (bs ++ cs)) strip = drop-drop (length cs) n strip ∙ ap (λ (k : ℕ). drop k strip) (omega (arith, length-append bs cs)) in
    let f = append_assoc bs cs (drop (length (bs ++ cs)) strip) in
    rw (t, d, e) (sym f)

module _ {X : Type 0} (strip bs cs out : List X) (n : ℕ) (at : n ≡ length bs) (is : out ≡ at_front bs strip) (room : length (bs ++ cs) ≤ length strip) where
  within : n + length cs ≤ length out
  within = omega (arith, length-append bs cs, ap length is, length-append bs (drop (length bs) strip), length-drop (length bs) strip)

  -- there is room for the list in the rest of the strip
  pub rest_room : length cs ≤ length (take (length out - n) (drop n out))
  rest_room = omega (arith, within, ap length (take_rest out n), length-drop n out)

  -- and once it is written there, it stands after what stood at the front
  pub front_put : (now : List X) → now ≡ at_front cs (take (length out - n) (drop n out)) → put_mid n (length out - n) out now ≡ at_front (bs ++ cs) strip
  front_put now e =
      let nothing : drop (length out - n) (drop n out) ≡ [] = nil_from_length _ (omega (arith, length-drop (length out - n) (drop n out), length-drop n out)) in
      let rest : now ≡ at_front cs (drop n out) = e ∙ ap (at_front cs) (take_rest out n) in
      let a : put_mid n (length out - n) out now ≡ take n out ++ at_front cs (drop n out) = rw (nothing, append-nil, rest) in
      a ∙ (rw (is, at) (front-front strip bs cs))

-- three lists, one after another
pub length_three : {X : Type 0} (xs ys zs : List X) → length (xs ++ (ys ++ zs)) ≡ length xs + length ys + length zs
length_three xs ys zs = omega (arith, length-append xs (ys ++ zs), length-append ys zs)

module _ {X : Type 0} (was xs ys zs one now₁ : List X) (i j : ℕ) (at : i ≡ length xs) (count : j ≡ length ys) (is : one ≡ at_front xs was) (room : length (xs ++ (ys ++ zs)) ≤ length was) (put : now₁ ≡ at_front ys (take (length one - i) (drop i one))) where
  abbrev two : List X
  two = put_mid i (length one - i) one now₁

  two-is : two ≡ at_front (xs ++ ys) was
  two-is = front_put was xs ys one i at is (omega (arith, length_three xs ys zs, length-append xs ys)) now₁ put

  j-at : i + j ≡ length (xs ++ ys)
  j-at = omega (arith, length-append xs ys)

  room' : length (xs ++ ys ++ zs) ≤ length was
  room' = omega (arith, ap length (append_assoc xs ys zs))

  pub third_room : length zs ≤ length (take (length two - (i + j)) (drop (i + j) two))
  third_room = rest_room was (xs ++ ys) zs two (i + j) j-at two-is room'

  pub third_put : (now₂ : List X) → now₂ ≡ at_front zs (take (length two - (i + j)) (drop (i + j) two)) → put_mid (i + j) (length two - (i + j)) two now₂ ≡ at_front (xs ++ (ys ++ zs)) was
  third_put now₂ e = front_put was (xs ++ ys) zs two (i + j) j-at two-is room' now₂ e ∙ ap (λ (bs : List X). at_front bs was) (append_assoc xs ys zs)
