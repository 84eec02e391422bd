-- What an opening leaves. Assumes nothing.
use Rattle.std.proofs.Common.{◌≡◌, ℕ, List, [], length, drop, Ok, sym, ap, ◌∙◌, subst}
use Rattle.fault.specs.Answers.{at_front}
use Rattle.charge.specs.Groups.{Kind}
use Rattle.automaton.specs.Words.{table}
use Rattle.automaton.specs.Meanings.{Local, Weights}
use Rattle.automaton.proofs.Rings.{length-table}
use Rattle.criterion.specs.ChargeStrips.{FrontMeans}
use Rattle.player.specs.Calls.{charges, call_checked, worked, Does}
use Rattle.player.specs.Calls.PlayerCall.{opens}
use Rattle.player.specs.Calls.PlayerAnswer.{done}
use Rattle.player.specs.Promises.{meant, meter_strips}
use Rattle.player.proofs.Books.{front-means, front-past}
use Rattle.player.proofs.Works.{does_work}

-- a ring `shown` that is the ring that open is given
module _ {C : Type 0} (K : Kind C) (r : Local) (d : Weights K.group.Carrier) (ring shown cells cells' : List ℕ) (opening crossed touched opening' crossed' touched' : List C) where
  -- what an opening that has passed leaves
  pub opens_does : call_checked r.q (length ring) (opens ring) (meant K (meter_strips cells opening crossed touched)) ≡ Ok tt → shown ≡ ring → cells' ≡ at_front shown cells →
      FrontMeans K (table (length shown) (charges K r d shown)) opening opening' →
      FrontMeans K (table (length shown) (λ _. K.group.zero)) crossed crossed' →
      FrontMeans K (table (length shown) (λ _. K.group.zero)) touched touched' →
      Does K r d (length ring) (opens ring) (meant K (meter_strips cells opening crossed touched)) done (meant K (meter_strips cells' opening' crossed' touched'))
  opens_does ready same c o x t =
      does_work K r d (length ring) (opens ring) (meant K (meter_strips cells opening crossed touched)) done (meant K (meter_strips cells' opening' crossed' touched')) ready
      (subst (λ w. worked K r d (length w) (opens w) (meant K (meter_strips cells opening crossed touched)) ≡ record { said = done; left = meant K (meter_strips cells' opening' crossed' touched') }) same
      (λ i. record {
        said = done;
        left = record {
          cells = sym c i;
          spare = [];
          opening = sym (front-means K (table L (charges K r d shown)) L opening opening' o size) i;
          crossed = sym (front-means K (table L (λ _. K.group.zero)) L crossed crossed' x nothing) i;
          touched = sym (front-means K (table L (λ _. K.group.zero)) L touched touched' t nothing) i;
        };
      }))
    where
      L : ℕ
      L = length shown

      size : length (table L (charges K r d shown)) ≡ L
      size = length-table L (charges K r d shown)

      nothing : length (table L (λ _. K.group.zero)) ≡ L
      nothing = length-table L (λ _. K.group.zero)

-- the charges past a ring that is opened stay
pub opens_past : {C : Type 0} (K : Kind C) (ring shown : List ℕ) (f : ℕ → K.group.Carrier) (old new : List C) → shown ≡ ring →
    FrontMeans K (table (length shown) f) old new → drop (length ring) new ≡ drop (length ring) old
opens_past K ring shown f old new same fronts = front-past K (table (length shown) f) (length ring) old new fronts (length-table (length shown) f ∙ ap length same)
