-- What an accepted step does to the cells and the spare cells. Assumes nothing.
use Rattle.std.proofs.Common.{◌≡◌, take, drop, ap, ◌∙◌, length-take-le, take_at}
use Rattle.charge.specs.Groups.{Kind}
use Rattle.automaton.specs.Meanings.{next}
use Rattle.automaton.proofs.Steps.{length-next}
use Rattle.player.specs.Calls.{worked, passed_or, outcome}
use Rattle.player.specs.Calls.PlayerCall.{steps}
use Rattle.player.specs.Calls.PlayerAnswer.{refused}
use Rattle.player.proofs.Passed.{steps_fit}
use Rattle.player.specs.Laws.{StepsOn}

module _ {C : Type 0} (K : Kind C) where
  pub steps_on : StepsOn K
  steps_on r d L s e =
      let is : outcome K r d L steps s ≡ worked K r d L steps s = ap (λ t. passed_or t (worked K r d L steps s) (λ f. record { said = refused f; left = s })) e in
      let fits = steps_fit r.q L s e in (
        ap (λ o. take L o.left.cells) is
            ∙ take_at (next r (take L s.cells)) (drop L s.cells) L (length-next r (take L s.cells) ∙ length-take-le L s.cells fits.0),
        ap (λ o. take L o.left.spare) is
            ∙ take_at (take L s.cells) (drop L s.spare) L (length-take-le L s.cells fits.0),
      )
