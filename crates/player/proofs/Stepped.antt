-- What a step leaves. Assumes nothing.
use Rattle.std.proofs.Common.{◌≡◌, ℕ, ◌≤◌, List, [], ◌++◌, length, map, take, drop, Ok, Err, Result, sym, refl, ap, ◌∙◌, subst, arith}
use Rattle.std.proofs.lemmas.List.{take-append-drop, length-take-le}
use Rattle.std.proofs.lemmas.Bool.Decides.{nat_tests}
use Rattle.fault.specs.declared.Fault.{Fault}
use Rattle.fault.specs.Answers.{plainly, at_front}
use Rattle.charge.specs.Groups.{Kind}
use Rattle.automaton.specs.Meanings.{Local, Weights, next}
use Rattle.automaton.proofs.Steps.{length-next}
use Rattle.criterion.specs.ChargeStrips.{FrontMeans}
use Rattle.player.specs.Calls.{crossing_at, booked, call_checked, Does}
use Rattle.player.specs.Calls.PlayerCall.{steps}
use Rattle.player.specs.Answers.{done_said, Stays}
use Rattle.player.specs.Promises.{meant, step_strips}
use Rattle.player.proofs.Books.{front-means, front-past}
use Rattle.player.proofs.Kept.{length-booked}
use Rattle.player.proofs.Passed.{steps_fit}
use Rattle.player.proofs.Works.{does_work}

-- an answer that is no refusal
passed_is : (x : Result (Unit {0}) Fault) → plainly x ≡ Ok tt → Ok tt ≡ x
passed_is (Ok t) e = refl
passed_is (Err f) e = grind (arith, nat_tests)

-- as many at the front of a strip
front-count : {X : Type 0} (xs : List X) (n : ℕ) (old new : List X) → length xs ≡ n → new ≡ at_front xs old → xs ++ drop n old ≡ new
front-count xs n old new size e = ap (λ k. xs ++ drop k old) (sym size) ∙ sym e

module _ {C : Type 0} (K : Kind C) (r : Local) (d : Weights K.group.Carrier) (L : ℕ) (cells spare cells' spare' : List ℕ) (crossed crossed' : List C) where
  -- what is booked
  abbrev flows : List K.group.Carrier
  flows = booked K.group (crossing_at K r d (take L cells)) (take L (map K.means crossed))

  module _ (ready : call_checked r.q L steps (meant K (step_strips cells spare crossed)) ≡ Ok tt) (fronts : FrontMeans K flows crossed crossed')
      (said : Result (Unit {0}) Fault) (passed : plainly said ≡ Ok tt) where
    fit : (L ≤ length cells) × (L ≤ length spare) × (L ≤ length (map K.means crossed))
    fit = steps_fit r.q L (meant K (step_strips cells spare crossed)) ready

    size : length flows ≡ L
    size = length-booked K.group (crossing_at K r d (take L cells)) (take L (map K.means crossed)) ∙ length-take-le L (map K.means crossed) fit.2

    pub steps_does : cells' ≡ at_front (next r (take L cells)) cells → spare' ≡ at_front (take L cells) spare →
        Does K r d L steps (meant K (step_strips cells spare crossed)) (done_said K said) (meant K (step_strips cells' spare' crossed'))
    steps_does c s =
        let kept : length (take L cells) ≡ L = length-take-le L cells fit.0 in
        let new = front-count (next r (take L cells)) L cells cells' (length-next r (take L cells) ∙ kept) c in
        let old = front-count (take L cells) L spare spare' kept s in
        does_work K r d L steps (meant K (step_strips cells spare crossed)) (done_said K said) (meant K (step_strips cells' spare' crossed')) ready
        (λ j. record {
          said = done_said K (passed_is said passed j);
          left = record {
            cells = new j;
            spare = old j;
            opening = take-append-drop L [] j;
            crossed = sym (front-means K flows L crossed crossed' fronts size) j;
            touched = take-append-drop L [] j;
          };
        })

    pub steps_past : Stays said L crossed crossed'
    steps_past = subst (λ x. Stays x L crossed crossed') (passed_is said passed) (front-past K flows L crossed crossed' fronts size)
