-- A session of structs from C has the log and the strips of the calls in it. Assumes nothing.
use Rattle.std.proofs.Common.{◌≡◌, ℕ, ◌+◌, ◌<◌, List, [], ◌∷◌, ◌++◌, map, length, get_or, take, drop, set, fold, Some, None, Ok, Err, Option, sym, refl, ap, ◌∙◌, ap₂, subst, length-append}
use Rattle.std.proofs.lemmas.List.{length-map, map_push, take_more, take_more_set, take-append-drop}
use Rattle.std.proofs.lemmas.List.Sums.{fold_push}
use Rattle.fault.specs.Answers.{at_front}
use Rattle.charge.specs.Groups.{Kind}
use Rattle.automaton.specs.Meanings.{Local, Weights}
use Rattle.player.specs.Calls.{PlayerCall, PlayerAnswer, PlayerStrips}
use Rattle.player.specs.Logs.{standing}
use Rattle.player.specs.Scripts.{PlayedScript, logged, left_by, cells_after, played_more, played}
use Rattle.player.proofs.Scripts.{cells_stand}
use Rattle.capi.specs.Scripts.{Asking, obeyed, session, Obeys}

-- the calls of a script
abbrev pub calls_in : List Asking → List PlayerCall
calls_in [] = []
calls_in (Ok (Some call) ∷ script) = call ∷ calls_in script
calls_in (Ok None ∷ script) = calls_in script
calls_in (Err f ∷ script) = calls_in script

module _ {C : Type 0} (K : Kind C) (r : Local) (d : Weights K.group.Carrier) where
  -- one log, and strips that are left alike
  abbrev Alike : PlayedScript K.group.Carrier → PlayedScript K.group.Carrier → Type 0
  Alike p q = (p.log ≡ q.log) × (p.strips ≡ q.strips)

  alike_more : (p q : PlayedScript K.group.Carrier) → Alike p q → (call : PlayerCall) → Alike (played_more K r d p call) (played_more K r d q call)
  alike_more p q same call = (
    (λ j. logged K r d (length (standing (same.0 j)).cells) call (same.1 j) (same.0 j)),
    (λ j. left_by K r d (length (standing (same.0 j)).cells) call (same.1 j)),
  )

  alike : (p q : PlayedScript K.group.Carrier) → Alike p q → (script : List Asking) → Alike (fold (obeyed K r d) p script) (fold (played_more K r d) q (calls_in script))
  alike p q same [] = same
  alike p q same (Ok (Some call) ∷ script) = alike (played_more K r d p call) (played_more K r d q call) (alike_more p q same call) script
  alike p q same (Ok None ∷ script) = alike (obeyed K r d p (Ok None)) q same script
  alike p q same (Err f ∷ script) = alike (obeyed K r d p (Err f)) q same script

  pub session_alike : (s : PlayerStrips K.group.Carrier) (script : List Asking) → Alike (session K r d s script) (played K r d s (calls_in script))
  session_alike s script = alike (session K r d s []) (played K r d s []) (refl, refl) script

  -- one struct more
  session_more : {X : Type 0} (s : PlayerStrips K.group.Carrier) (asked : X → Asking) (script : List X) (i : ℕ) (none : X) → i < length script →
      session K r d s (map asked (take (i + 1) script)) ≡ obeyed K r d (session K r d s (map asked (take i script))) (asked (get_or script i none))
  session_more s asked script i none h =
      ap (λ xs. session K r d s (map asked xs)) (take_more script i none h)
      ∙ ap (session K r d s) (map_push asked (take i script) (get_or script i none))
      ∙ fold_push (obeyed K r d) (session K r d s []) (map asked (take i script)) (asked (get_or script i none))

  -- how many cells the ring has that stands after one call more
  cells_more : (s : PlayerStrips K.group.Carrier) (script : List Asking) (call : PlayerCall) →
      let p = session K r d s script in
      cells_after K r d (length (standing p.log).cells) call p.strips ≡ length (standing (played_more K r d p call).log).cells
  cells_more s script call =
      let same = session_alike s script in
      (λ j. cells_after K r d (length (standing (same.0 j)).cells) call (same.1 j))
      ∙ cells_stand K r d s (calls_in script) call
      ∙ sym (λ j. length (standing (logged K r d (length (standing (same.0 j)).cells) call (same.1 j) (same.0 j))).cells)

  obeys_more : (s : PlayerStrips K.group.Carrier) (script : List Asking) (x : Asking) (said : Option (PlayerAnswer K.group.Carrier)) (left : PlayerStrips K.group.Carrier) (cells : ℕ) →
      let p = session K r d s script in
      Obeys K r d (length (standing p.log).cells) p.strips x said left cells →
      let q = obeyed K r d p x in (q.said ≡ p.said ++ (said ∷ [])) × (left ≡ q.strips) × (cells ≡ length (standing q.log).cells)
  obeys_more s script (Ok (Some call)) said left cells is =
      let p = session K r d s script in (ap (λ a. p.said ++ (a ∷ [])) (sym is.0), is.1, is.2 ∙ cells_more s script call)
  obeys_more s script (Ok None) said left cells is = let p = session K r d s script in (ap (λ a. p.said ++ (a ∷ [])) (sym is.0), is.1, is.2)
  obeys_more s script (Err f) said left cells is = let p = session K r d s script in (ap (λ a. p.said ++ (a ∷ [])) (sym is.0), is.1, is.2)

  -- what is answered to one struct more, how the strips are left, and how many cells the ring has then
  pub session_step : {X : Type 0} (first : PlayerStrips K.group.Carrier) (asked : X → Asking) (script : List X) (i : ℕ) (none : X) → i < length script →
      (L : ℕ) (s left : PlayerStrips K.group.Carrier) (x : Asking) (said : Option (PlayerAnswer K.group.Carrier)) (cells : ℕ) →
      let p = session K r d first (map asked (take i script)) in
      L ≡ length (standing p.log).cells → s ≡ p.strips → x ≡ asked (get_or script i none) → Obeys K r d L s x said left cells →
      let q = session K r d first (map asked (take (i + 1) script)) in (q.said ≡ p.said ++ (said ∷ [])) × (left ≡ q.strips) × (cells ≡ length (standing q.log).cells)
  session_step first asked script i none h L s left x said cells size stand is obeys =
      let p = session K r d first (map asked (take i script)) in
      let more = session_more first asked script i none h in
      let step = obeys_more first (map asked (take i script)) (asked (get_or script i none)) said left cells
      (subst (λ y. Obeys K r d (length (standing p.log).cells) p.strips y said left cells) is
      (subst (λ t. Obeys K r d (length (standing p.log).cells) t x said left cells) stand
      (subst (λ n. Obeys K r d n s x said left cells) size obeys))) in
      (ap (λ q. q.said) more ∙ step.0, step.1 ∙ ap (λ q. q.strips) (sym more), step.2 ∙ ap (λ q. length (standing q.log).cells) (sym more))

-- Answers on a strip up to index i: some that are what is said are there, in the form that C gets.
pub record Given {X Y Z : Type 0} (means : X → Y) (told : X → Z) (said : List Y) (strip : List Z) (i : ℕ) : Type 0 where
  pub given : List X
  pub count : length given ≡ i
  pub said_is : map means given ≡ said
  pub strip_is : take i strip ≡ map told given

pub given_more : {X Y Z : Type 0} (means : X → Y) (told : X → Z) (said said' : List Y) (strip : List Z) (i : ℕ) (x : X) (y : Y) (z : Z) → i < length strip →
    Given means told said strip i → means x ≡ y → said' ≡ said ++ (y ∷ []) → z ≡ told x → Given means told said' (set strip i z) (i + 1)
given_more means told said said' strip i x y z h g is more told_is = record {
  given = g.given ++ (x ∷ []);
  count = length-append g.given (x ∷ []) ∙ ap (λ n. n + 1) g.count;
  said_is = map_push means g.given x ∙ ap₂ (λ t u. t ++ (u ∷ [])) g.said_is is ∙ sym more;
  strip_is = take_more_set strip i z h ∙ ap₂ (λ t u. t ++ (u ∷ [])) g.strip_is told_is ∙ sym (map_push told g.given x);
}

-- and they stand at the front of the strip, whose other answers stay
pub given_front : {X Y Z : Type 0} (means : X → Y) (told : X → Z) (said : List Y) (strip old : List Z) (i : ℕ) (g : Given means told said strip i) → drop i strip ≡ drop i old →
    strip ≡ at_front (map told g.given) old
given_front means told said strip old i g past =
    sym (take-append-drop i strip) ∙ ap₂ (λ t u. t ++ u) g.strip_is (past ∙ ap (λ n. drop n old) (sym (length-map g.given told ∙ g.count)))
