-- A script of calls, each handed all five strips as they stand. Assumes nothing.
use Rattle.std.specs.Prelude.{ℕ, cond, List, [], ◌∷◌, ◌++◌, length, Some, None, Option, fold}
use Rattle.charge.specs.Groups.{Kind}
use Rattle.automaton.specs.Meanings.{Local, Weights}
use Rattle.player.specs.Calls.{PlayerCall, PlayerAnswer, PlayerStrips, CallOutcome, size, outcome}
use Rattle.player.specs.Calls.PlayerCall.{opens, touches, steps, reads, closes}
use Rattle.player.specs.Logs.{Log, allowed, accepted, standing}
use Rattle.player.specs.Logs.Log.{made, ◌then◌}

-- what has been played: the log, the strips as they stand, and what was answered to each call
pub record PlayedScript (A : Type 0) : Type 0 where
  pub log : Log A
  pub strips : PlayerStrips A
  pub said : List (Option (PlayerAnswer A))

-- a ring of L cells is open after a call on it that is accepted, unless the call closes it
abbrev pub still_open : PlayerCall → ℕ → ℕ
still_open (opens ring) L = L
still_open (touches i a) L = L
still_open steps L = L
still_open (reads i) L = L
still_open closes L = 0

module _ {C : Type 0} (K : Kind C) (r : Local) (d : Weights K.group.Carrier) where
  -- A call where a ring of L cells is open. One that the states do not allow has no answer, leaves the strips as they
  -- stand, and is no line of the log.
  module _ (L : ℕ) (call : PlayerCall) (s : PlayerStrips K.group.Carrier) where
    abbrev pub got : CallOutcome K.group.Carrier
    got = outcome K r d (size call L) call s

    abbrev pub said_to : Option (PlayerAnswer K.group.Carrier)
    said_to = cond (allowed call L) (Some got.said) None

    abbrev pub left_by : PlayerStrips K.group.Carrier
    left_by = cond (allowed call L) got.left s

    abbrev pub logged : Log K.group.Carrier → Log K.group.Carrier
    logged log = cond (allowed call L) (log then record { call = call; handed = s; got = got }) log

  -- how many cells the ring has that is open after a call
  abbrev pub cells_after : ℕ → PlayerCall → PlayerStrips K.group.Carrier → ℕ
  cells_after L call s = cond (allowed call L) (accepted (got L call s).said (still_open call (size call L)) L) L

  -- one call more
  abbrev pub played_more : PlayedScript K.group.Carrier → PlayerCall → PlayedScript K.group.Carrier
  played_more p call =
      let L : ℕ = length (standing p.log).cells in
      record {
        log = logged L call p.strips p.log;
        strips = left_by L call p.strips;
        said = p.said ++ (said_to L call p.strips ∷ []);
      }

  -- a script played from the making of a bench on
  abbrev pub played : PlayerStrips K.group.Carrier → List PlayerCall → PlayedScript K.group.Carrier
  played s script = fold played_more (record { log = made; strips = s; said = [] }) script
