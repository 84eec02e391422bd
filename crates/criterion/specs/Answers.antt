-- What the search answers and writes. Assumes nothing.
use Rattle.std.specs.Prelude.{ℕ, List, [], length, Some, None, Ok, Err, Option, Result}
use Rattle.std.specs.Option.{option_map}
use Rattle.fault.specs.declared.Fault.{Fault}
use Rattle.fault.specs.Refusals.{Refusal, refusal}
use Rattle.charge.specs.Groups.{Kind}
use Rattle.criterion.specs.Labelled.{LabelList}
use Rattle.criterion.specs.Search.{crossings, failure, with_room}
use Rattle.criterion.specs.declared.search.Failure.{Failure}

-- the failing word's code and the length of the ring that shows it
abbrev pub failure_seen : Result (Option Failure) Fault → Result (Option (ℕ × ℕ)) Refusal
failure_seen (Ok found) = Ok (option_map (λ f. (f.word, f.len)) found)
failure_seen (Err f) = Err (refusal f)

-- the same of what is defined: the code, and the length of the ring
abbrev pub with_length : Result (Option (ℕ × List ℕ)) Refusal → Result (Option (ℕ × ℕ)) Refusal
with_length (Ok found) = Ok (option_map (λ f. (f.0, length f.1)) found)
with_length (Err f) = Err f

-- the ring that is written: none where the call is refused or no word fails
abbrev pub ring_written : Result (Option (ℕ × List ℕ)) Refusal → List ℕ
ring_written (Ok (Some f)) = f.1
ring_written (Ok None) = []
ring_written (Err f) = []

-- what is written, unless the call is refused
abbrev pub unless_refused : {X Y : Type 0} → Result Y Refusal → List X → List X
unless_refused (Ok y) xs = xs
unless_refused (Err f) xs = []

module _ {C : Type 0} (K : Kind C) (z : ℕ) (d : LabelList K.group.Carrier) (crossing_room ring_room : ℕ) where
  -- the answer for strips of these lengths
  abbrev pub examined : Result (Option (ℕ × List ℕ)) Refusal
  examined = with_room K z d crossing_room ring_room (failure K z d)

  -- the crossings that are written: none where the call is refused
  abbrev pub crossings_written : List K.group.Carrier
  crossings_written = unless_refused examined (crossings K z d)
