-- What a reader answers of an input, and what it leaves to be read. Assumes nothing.
use Rattle.std.specs.Prelude.{◌≡◌, ℕ, List, Ok, Err, Result}
use Rattle.fault.specs.declared.Fault.{Fault}
use Rattle.fault.specs.Refusals.{refusal}
use Rattle.preset.specs.declared.input.Unread.{Unread}
use Rattle.preset.specs.Answers.{Parse}

-- a reader's answer with the bytes that are left
abbrev pub with_rest : {X : Type 0} → Result X Fault → List ℕ → Parse X
with_rest (Ok x) rest = Ok (x, rest)
with_rest (Err f) rest = Err (refusal f)

-- an input before and after a reader, whose answer is a function of the input's length and of its unread bytes
pub record Reads {X : Type 0} (was now : Unread) (result : Result X Fault) (answer : ℕ → List ℕ → Parse X) : Type 0 where
  pub answer_is : with_rest result now.bytes.now ≡ answer was.whole was.bytes.now
  pub same_input : now.whole ≡ was.whole
