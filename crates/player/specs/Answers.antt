-- What calls, strips and answers mean. Assumes nothing.
use Rattle.std.specs.Prelude.{◌≡◌, ℕ, List, length, map, take, drop, Ok, Err, Option, Result}
use Rattle.std.specs.Option.{option_map}
use Rattle.fault.specs.declared.Fault.{Fault}
use Rattle.fault.specs.Refusals.{refusal}
use Rattle.charge.specs.Groups.{Kind}
use Rattle.bench.specs.declared.state.Refused.{Refused}
use Rattle.player.specs.declared.meters.Reading.{Reading}
use Rattle.player.specs.declared.call.Call.{Call}
use Rattle.player.specs.declared.call.Call.TheVariants.{Open, Touch, Step, Read, Close}
use Rattle.player.specs.declared.call.Answer.{Answer}
use Rattle.player.specs.declared.call.Answer.TheVariants.{Done, Reading as Read_as, Refused as Refused_by}
use Rattle.player.specs.declared.player.Player.{Player}
use Rattle.player.specs.declared.player.Player.TheVariants.{Idle, Playing}
use Rattle.player.specs.Calls.{PlayerCall, PlayerAnswer}
use Rattle.player.specs.Calls.PlayerCall.{opens, touches, steps, reads, closes}
use Rattle.player.specs.Calls.PlayerAnswer.{done, reading, refused}

-- a call with what it is given
abbrev pub call_meant : Call → PlayerCall
call_meant (Open ring) = opens ring.now
call_meant (Touch site letter) = touches site letter
call_meant Step = steps
call_meant (Read site) = reads site
call_meant Close = closes

module _ {C : Type 0} (K : Kind C) where
  -- a reading by what its charges mean
  abbrev pub reading_means : Reading C → PlayerAnswer K.group.Carrier
  reading_means m = reading (K.means m.opening) (K.means m.crossed) (K.means m.touched) (K.means m.now)

  -- an answer to a call of a script
  abbrev pub answer_meant : Answer C → PlayerAnswer K.group.Carrier
  answer_meant Done = done
  answer_meant (Read_as m) = reading_means m
  answer_meant (Refused_by f) = refused (refusal f)

  -- the answers to the calls of a script
  abbrev pub answers_to : {X : Type 0} → List X → List (Option (Answer C)) → List (Option (PlayerAnswer K.group.Carrier))
  answers_to script answers = map (option_map answer_meant) (take (length script) answers)

  -- what the calls answer
  abbrev pub read_said : Result (Reading C) Fault → PlayerAnswer K.group.Carrier
  read_said (Ok m) = reading_means m
  read_said (Err f) = refused (refusal f)

  abbrev pub done_said : Result (Unit {0}) Fault → PlayerAnswer K.group.Carrier
  done_said (Ok t) = done
  done_said (Err f) = refused (refusal f)

  abbrev pub open_said : {P S : Type 0} → Result P (Refused S) → PlayerAnswer K.group.Carrier
  open_said (Ok p) = done
  open_said (Err e) = refused (refusal e.fault)

-- what a script is answered, by what the call answers
abbrev pub done_or_refused : {C : Type 0} → Result (Unit {0}) Fault → Answer C
done_or_refused (Ok t) = Done
done_or_refused (Err f) = Refused_by f

abbrev pub read_or_refused : {C : Type 0} → Result (Reading C) Fault → Answer C
read_or_refused (Ok m) = Read_as m
read_or_refused (Err f) = Refused_by f

-- how many cells the open ring has, 0 where none is open
abbrev pub open_cells : {H P : Type 0} → (P → ℕ) → Player H P → ℕ
open_cells cells (Idle h) = 0
open_cells cells (Playing p) = cells p

-- what is kept of the bench, by those of each state
abbrev pub of_player : {H P X : Type 0} → (H → X) → (P → X) → Player H P → X
of_player of_idle of_playing (Idle h) = of_idle h
of_player of_idle of_playing (Playing p) = of_playing p

-- the charges past the first n stay, and after a refusal all do
abbrev pub Stays : {X Y F : Type 0} → Result Y F → ℕ → List X → List X → Type 0
Stays (Ok y) n old new = drop n new ≡ drop n old
Stays (Err f) n old new = new ≡ old
