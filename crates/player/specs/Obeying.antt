-- What a player answers to a call and to a script, by the ring that is open. Assumes nothing.
use Rattle.std.specs.Prelude.{◌≡◌, ℕ, List, length, drop, Some, None, Option}
use Rattle.std.specs.Option.{option_map}
use Rattle.charge.specs.Groups.{Kind}
use Rattle.player.specs.declared.call.Answer.{Answer}
use Rattle.player.specs.declared.call.Answer.TheVariants.{Done, Reading as Read_as, Refused as Refused_by}
use Rattle.bench.specs.Benches.{Bench}
use Rattle.player.specs.Calls.{PlayerCall, PlayerAnswer, PlayerStrips}
use Rattle.player.specs.Calls.PlayerCall.{opens, touches, steps, reads, closes}
use Rattle.player.specs.Answers.{answer_meant}
use Rattle.player.specs.Promises.{OpenRing, meant}
use Rattle.player.specs.Scripts.{PlayedScript, said_to, left_by, cells_after, played}

module _ {C : Type 0} {K : Kind C} (ring : OpenRing K) (call : PlayerCall) (s : PlayerStrips C) where
  -- the answer, the strips as they are left, and how many cells the ring has that is open then
  abbrev pub said_on : Option (PlayerAnswer K.group.Carrier)
  said_on = said_to K ring.bench.rule ring.bench.density ring.len call (meant K s)

  abbrev pub left_on : PlayerStrips K.group.Carrier
  left_on = left_by K ring.bench.rule ring.bench.density ring.len call (meant K s)

  abbrev pub cells_on : ℕ
  cells_on = cells_after K ring.bench.rule ring.bench.density ring.len call (meant K s)

-- how many charges at the front of the strips for opening, crossed and touched are written, and the same of all three
pub record ChargesWritten : Type 0 where
  pub opening : ℕ
  pub crossed : ℕ
  pub touched : ℕ

abbrev pub front_of_all : ℕ → ChargesWritten
front_of_all n = record { opening = n; crossed = n; touched = n }

-- An accepted call on a ring of L cells writes at most these: an open the sites of its ring, a touch what is touched, a
-- step what has crossed, and the others none.
abbrev pub written_by : PlayerCall → ℕ → ChargesWritten
written_by (opens ring) L = front_of_all (length ring)
written_by (touches i a) L = record { opening = 0; crossed = 0; touched = L }
written_by steps L = record { opening = 0; crossed = L; touched = 0 }
written_by (reads i) L = front_of_all 0
written_by closes L = front_of_all 0

-- a call that has no answer or is refused writes none
abbrev pub written_after : {C : Type 0} → Option (Answer C) → PlayerCall → ℕ → ChargesWritten
written_after None call L = front_of_all 0
written_after (Some (Refused_by f)) call L = front_of_all 0
written_after (Some Done) call L = written_by call L
written_after (Some (Read_as m)) call L = written_by call L

-- past what is written the charges stay: the charges themselves, and not only what they mean
abbrev pub StaysPast : {C : Type 0} → ChargesWritten → PlayerStrips C → PlayerStrips C → Type 0
StaysPast n old new =
    (drop n.opening new.opening ≡ drop n.opening old.opening)
    × (drop n.crossed new.crossed ≡ drop n.crossed old.crossed)
    × (drop n.touched new.touched ≡ drop n.touched old.touched)

-- What a player answers to a call where a ring is open, how it leaves the strips, and how many cells the ring has that is
-- open then.
pub record ObeysOn {C : Type 0} {K : Kind C} (ring : OpenRing K) (call : PlayerCall) (old : PlayerStrips C) (answer : Option (Answer C)) (new : PlayerStrips C) (cells : ℕ) : Type 0 where
  pub said : option_map (answer_meant K) answer ≡ said_on ring call old
  pub left : meant K new ≡ left_on ring call old
  pub still_open : cells ≡ cells_on ring call old
  pub charges : StaysPast (written_after answer call ring.len) old new

-- a script that is played on a bench
abbrev pub played_on : {C : Type 0} {K : Kind C} → Bench K → PlayerStrips C → List PlayerCall → PlayedScript K.group.Carrier
played_on {C} {K} b s script = played K b.rule b.density (meant K s) script
