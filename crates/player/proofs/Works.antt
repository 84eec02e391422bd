-- A call that is not refused does its work. Assumes nothing.
use Rattle.std.proofs.Common.{◌≡◌, ℕ, Ok, ap, ◌∙◌}
use Rattle.charge.specs.Groups.{Kind}
use Rattle.automaton.specs.Meanings.{Local, Weights}
use Rattle.player.specs.Calls.{PlayerCall, PlayerAnswer, PlayerStrips, call_checked, worked, passed_or, Does}
use Rattle.player.specs.Calls.PlayerAnswer.{refused}

module _ {C : Type 0} (K : Kind C) (r : Local) (d : Weights K.group.Carrier) where
  pub does_work : (L : ℕ) (call : PlayerCall) (handed : PlayerStrips K.group.Carrier) (said : PlayerAnswer K.group.Carrier) (left : PlayerStrips K.group.Carrier) → call_checked r.q L call handed ≡ Ok tt →
      worked K r d L call handed ≡ record { said = said; left = left } → Does K r d L call handed said left
  does_work L call handed said left ready works = ap (λ t. passed_or t (worked K r d L call handed) (λ f. record { said = refused f; left = handed })) ready ∙ works
