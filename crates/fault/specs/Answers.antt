-- Answers as plain numbers, and what a call makes of a strip. Assumes nothing.
use Rattle.std.specs.Prelude.{List, ◌++◌, length, drop, Ok, Err, Result}
use Rattle.fault.specs.declared.Fault.{Fault}
use Rattle.fault.specs.Refusals.{Refusal, refusal}

-- an answer with its refusal as plain numbers
abbrev pub plainly : {X : Type 0} → Result X Fault → Result X Refusal
plainly (Ok x) = Ok x
plainly (Err f) = Err (refusal f)

-- the first refusal is the answer; otherwise it goes on
abbrev pub and_then : {X Y F : Type 0} → Result X F → (X → Result Y F) → Result Y F
and_then (Ok x) f = f x
and_then (Err e) f = Err e

-- xs at the front of a strip, whose other entries stay
abbrev pub at_front : {X : Type 0} → List X → List X → List X
at_front xs strip = xs ++ drop (length xs) strip

-- a strip after a call: a part of what was made stands at its front; after a refusal it is as it was
abbrev pub strip_after : {X Y : Type 0} → (Y → List X) → List X → Result Y Refusal → List X
strip_after part strip (Ok y) = at_front (part y) strip
strip_after part strip (Err f) = strip
