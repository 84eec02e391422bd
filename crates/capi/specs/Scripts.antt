-- Scripts from C, and how they are played. Assumes nothing.
use Rattle.std.specs.Prelude.{◌≡◌, ℕ, suc, ◌+◌, cond, List, [], ◌∷◌, ◌++◌, length, map, take, drop, replicate, fold, Some, None, Ok, Err, Option, Result, ◌==◌, nat_le}
use Rattle.fault.specs.declared.Fault.{Fault}
use Rattle.fault.specs.declared.Stop.TheVariants.{BadLength, ShortStrip}
use Rattle.fault.specs.Answers.{and_then}
use Rattle.fault.specs.Checks.{tested}
use Rattle.fault.specs.Limits.{most_cells, within}
use Rattle.fault.specs.Refusals.{Refusal, refusal}
use Rattle.charge.specs.Groups.{Kind}
use Rattle.automaton.specs.Meanings.{Local, Weights}
use Rattle.std.specs.Option.{option_map}
use Rattle.player.specs.declared.call.Call.{Call}
use Rattle.player.specs.Answers.{call_meant}
use Rattle.player.specs.Promises.{all_strips, meant}
use Rattle.player.specs.Calls.{PlayerCall, PlayerAnswer, PlayerStrips}
use Rattle.player.specs.Calls.PlayerCall.{opens, touches, steps, reads, closes}
use Rattle.player.specs.Calls.PlayerAnswer.{refused}
use Rattle.player.specs.Logs.{allowed, standing}
use Rattle.player.specs.Logs.Log.{made}
use Rattle.player.specs.Scripts.{PlayedScript, said_to, left_by, cells_after, played_more}
use Rattle.capi.specs.declared.script.ScriptCall.{ScriptCall}
use Rattle.capi.specs.declared.script.Script.{Script}

-- what a struct asks: a call of the player's, nothing, or an open that has no ring to hand over, by its refusal
abbrev pub Asking : Type 0
Asking = Result (Option PlayerCall) Refusal

-- A ring from the letters of all rings. First its length is tested, and then whether they reach so far.
abbrev pub ring_at : List ℕ → ℕ → ℕ → Result (List ℕ) Refusal
ring_at letters at len =
    and_then (tested ((within 1 (suc most_cells) len, BadLength) ∷ (nat_le (at + len) (length letters), ShortStrip) ∷ []))
    (λ _. Ok (take len (drop at letters)))

-- 1 is open, 2 touch, 3 step, 4 read and 5 close; another number asks nothing
abbrev pub script_call : List ℕ → ScriptCall → Asking
script_call letters c =
    cond (c.call == 1) (and_then (ring_at letters c.at c.len) (λ ring. Ok (Some (opens ring))))
    (cond (c.call == 2) (Ok (Some (touches c.at c.letter)))
    (cond (c.call == 3) (Ok (Some steps))
    (cond (c.call == 4) (Ok (Some (reads c.at)))
    (cond (c.call == 5) (Ok (Some closes))
    (Ok None)))))

-- what a script asks, struct by struct
abbrev pub script_asks : Script → List Asking
script_asks s = map (script_call s.rings.now) s.calls.now

-- the same of what the code makes of a struct
abbrev pub asks : Result (Option Call) Fault → Asking
asks (Ok call) = Ok (option_map call_meant call)
asks (Err f) = Err (refusal f)

-- what an open that is refused is answered where a ring of L cells is open: nothing, unless the states allow open there
abbrev pub refused_open : {A : Type 0} → ℕ → Refusal → Option (PlayerAnswer A)
refused_open L f = cond (allowed (opens []) L) (Some (refused f)) None

-- an answer that is no line of the log
abbrev pub unplayed : {A : Type 0} → PlayedScript A → Option (PlayerAnswer A) → PlayedScript A
unplayed p a = record { log = p.log; strips = p.strips; said = p.said ++ (a ∷ []) }

-- strips of cells and of charges, with spare cells of zeros for the longest ring
abbrev pub handed : {C : Type 0} → (K : Kind C) → List ℕ → List C → List C → List C → PlayerStrips K.group.Carrier
handed K cells opening crossed touched = meant K (all_strips cells (replicate most_cells 0) opening crossed touched)

-- strips with the caller's cells; the others are of zeros and as long as the longest ring
abbrev pub zeroed : {C : Type 0} → (K : Kind C) → List ℕ → PlayerStrips K.group.Carrier
zeroed K cells = record {
  cells = cells;
  spare = replicate most_cells 0;
  opening = replicate most_cells K.group.zero;
  crossed = replicate most_cells K.group.zero;
  touched = replicate most_cells K.group.zero;
}

module _ {C : Type 0} (K : Kind C) (r : Local) (d : Weights K.group.Carrier) where
  -- one struct more; what asks nothing has no answer
  abbrev pub obeyed : PlayedScript K.group.Carrier → Asking → PlayedScript K.group.Carrier
  obeyed p (Ok (Some call)) = played_more K r d p call
  obeyed p (Ok None) = unplayed p None
  obeyed p (Err f) = unplayed p (refused_open (length (standing p.log).cells) f)

  -- a script played from the making of a bench on
  abbrev pub session : PlayerStrips K.group.Carrier → List Asking → PlayedScript K.group.Carrier
  session s script = fold obeyed (record { log = made; strips = s; said = [] }) script

  -- what is answered where a ring of L cells is open, how the strips are left, and how many cells the ring has then
  abbrev pub Obeys : ℕ → PlayerStrips K.group.Carrier → Asking → Option (PlayerAnswer K.group.Carrier) → PlayerStrips K.group.Carrier → ℕ → Type 0
  Obeys L s (Ok (Some call)) said left cells = (said ≡ said_to K r d L call s) × (left ≡ left_by K r d L call s) × (cells ≡ cells_after K r d L call s)
  Obeys L s (Ok None) said left cells = (said ≡ None) × (left ≡ s) × (cells ≡ L)
  Obeys L s (Err f) said left cells = (said ≡ refused_open L f) × (left ≡ s) × (cells ≡ L)
