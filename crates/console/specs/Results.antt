-- Answers by what they stand for, and answers that are as defined but for one error. Assumes nothing.
use Rattle.std.specs.Prelude.{◌≡◌, ◌≢◌, Err, Result}
use Rattle.std.specs.Result.{result_map_both}

-- an answer by what its value stands for, and with its error as it is
abbrev pub value_as : {X Y E : Type 0} → (X → Y) → Result X E → Result Y E
value_as f r = result_map_both f (λ e. e) r

-- an answer with its value as it is, and by what its error stands for
abbrev pub error_as : {X E F : Type 0} → (E → F) → Result X E → Result X F
error_as f r = result_map_both (λ x. x) f r

-- two answers are the same, unless the first has an error, such as that there is no memory
abbrev pub SameUnless : {X E : Type 0} → E → Result X E → Result X E → Type 0
SameUnless e r s = (r ≢ Err e) → r ≡ s
