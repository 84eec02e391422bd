-- The charges that a call and a script leave as they were: the charges themselves. Assumes nothing.
use Rattle.std.proofs.Common.{◌≡◌, ℕ, ◌≤◌, max, Bool, true, false, cond, List, length, Some, None, Option, ◌∙◌, subst, arith}
use Rattle.std.specs.Option.{option_map}
use Rattle.charge.specs.Groups.{Kind}
use Rattle.automaton.specs.Meanings.{Local, Weights}
use Rattle.player.specs.declared.call.Answer.{Answer}
use Rattle.player.specs.declared.call.Answer.TheVariants.{Done, Reading as Read_as, Refused as Refused_by}
use Rattle.player.specs.Answers.{answer_meant}
use Rattle.player.specs.Calls.{PlayerCall, PlayerAnswer, PlayerStrips, size}
use Rattle.player.specs.Calls.PlayerCall.{opens, touches, steps, reads, closes}
use Rattle.player.specs.Calls.PlayerAnswer.{done, reading, refused}
use Rattle.player.specs.Logs.{Log, allowed, accepted, standing, ring_opened, longest_opened}
use Rattle.player.specs.Logs.Log.{◌then◌}
use Rattle.player.specs.Obeying.{ChargesWritten, front_of_all, written_by, written_after, StaysPast}
use Rattle.player.specs.Scripts.{PlayedScript, got, said_to, logged, still_open, cells_after, played_more, played}
use Rattle.player.proofs.Books.{past-later}
use Rattle.player.proofs.Scripts.{cells_stand}

-- one call more, which writes no charge past the first m
pub stays-more : {C : Type 0} (n m : ℕ) (w : ChargesWritten) (old mid new : PlayerStrips C) → n ≤ m → (w.opening ≤ m) × (w.crossed ≤ m) × (w.touched ≤ m) →
    StaysPast (front_of_all n) old mid → StaysPast w mid new → StaysPast (front_of_all m) old new
stays-more n m w old mid new less within first more = (
  past-later w.opening m mid.opening new.opening within.0 more.0 ∙ past-later n m old.opening mid.opening less first.0,
  past-later w.crossed m mid.crossed new.crossed within.1 more.1 ∙ past-later n m old.crossed mid.crossed less first.1,
  past-later w.touched m mid.touched new.touched within.2 more.2 ∙ past-later n m old.touched mid.touched less first.2,
)

abbrev Within : ChargesWritten → ℕ → Type 0
Within w m = (w.opening ≤ m) × (w.crossed ≤ m) × (w.touched ≤ m)

-- an accepted call writes no more charges than the longest ring has, and leaves no longer ring open
call-within : (call : PlayerCall) (L n : ℕ) → L ≤ n → Within (written_by call L) (max n (ring_opened call)) × (still_open call (size call L) ≤ max n (ring_opened call))
call-within (opens ring) L n h = ((omega arith, omega arith, omega arith), omega arith)
call-within (touches i a) L n h = ((omega arith, omega arith, omega arith), omega arith)
call-within steps L n h = ((omega arith, omega arith, omega arith), omega arith)
call-within (reads i) L n h = ((omega arith, omega arith, omega arith), omega arith)
call-within closes L n h = ((omega arith, omega arith, omega arith), omega arith)

nothing-within : (m : ℕ) → Within (front_of_all 0) m
nothing-within m = (omega arith, omega arith, omega arith)

module _ {C : Type 0} (K : Kind C) (r : Local) (d : Weights K.group.Carrier) where
  -- the answer that a call was given, and the log with it
  written-within : (log : Log K.group.Carrier) (call : PlayerCall) (s : PlayerStrips K.group.Carrier) (L : ℕ) → L ≤ longest_opened log → (answer : Option (Answer C)) →
      option_map (answer_meant K) answer ≡ said_to K r d L call s → Within (written_after answer call L) (longest_opened (logged K r d L call s log))
  written-within log call s L h None e = nothing-within _
  written-within log call s L h (Some (Refused_by f)) e = nothing-within _
  written-within log call s L h (Some Done) e = go (allowed call L) e
    where
      go : (b : Bool) → Some done ≡ cond b (Some (got K r d L call s).said) None →
          Within (written_by call L) (longest_opened (cond b (log then record { call = call; handed = s; got = got K r d L call s }) log))
      go true e =
          subst (λ a. Within (written_by call L) (max (longest_opened log) (accepted a (ring_opened call) 0))) (let same : done ≡ (got K r d L call s).said = grind arith in same)
          (call-within call L (longest_opened log) h).0
      go false e = absurd (grind arith)
  written-within log call s L h (Some (Read_as m)) e = go (allowed call L) e
    where
      go : (b : Bool) → Some (answer_meant K (Read_as m)) ≡ cond b (Some (got K r d L call s).said) None →
          Within (written_by call L) (longest_opened (cond b (log then record { call = call; handed = s; got = got K r d L call s }) log))
      go true e =
          subst (λ a. Within (written_by call L) (max (longest_opened log) (accepted a (ring_opened call) 0))) (let same : answer_meant K (Read_as m) ≡ (got K r d L call s).said = grind arith in same)
          (call-within call L (longest_opened log) h).0
      go false e = absurd (grind arith)

  -- a log with one call more has no shorter ring opened
  longer : (log : Log K.group.Carrier) (call : PlayerCall) (s : PlayerStrips K.group.Carrier) (L : ℕ) → longest_opened log ≤ longest_opened (logged K r d L call s log)
  longer log call s L = go (allowed call L)
    where
      go : (b : Bool) → longest_opened log ≤ longest_opened (cond b (log then record { call = call; handed = s; got = got K r d L call s }) log)
      go true = omega arith
      go false = omega arith

  -- the open ring is no longer than the longest that was opened
  accepted-within : (said : PlayerAnswer K.group.Carrier) (call : PlayerCall) (L n : ℕ) → L ≤ n → accepted said (still_open call (size call L)) L ≤ max n (accepted said (ring_opened call) 0)
  accepted-within done call L n h = (call-within call L n h).1
  accepted-within (reading o c t m) call L n h = (call-within call L n h).1
  accepted-within (refused f) call L n h = omega arith

  cells-within : (log : Log K.group.Carrier) (call : PlayerCall) (s : PlayerStrips K.group.Carrier) (L : ℕ) → L ≤ longest_opened log →
      cells_after K r d L call s ≤ longest_opened (logged K r d L call s log)
  cells-within log call s L h = go (allowed call L)
    where
      go : (b : Bool) → cond b (accepted (got K r d L call s).said (still_open call (size call L)) L) L
          ≤ longest_opened (cond b (log then record { call = call; handed = s; got = got K r d L call s }) log)
      go true = accepted-within (got K r d L call s).said call L (longest_opened log) h
      go false = h

  -- What stays while a script is played: the charges past the longest ring that was opened, which is no shorter than the
  -- ring that is open.
  pub record Stayed (p : PlayedScript K.group.Carrier) (old now : PlayerStrips C) : Type 0 where
    pub past : StaysPast (front_of_all (longest_opened p.log)) old now
    pub standing_within : length (standing p.log).cells ≤ longest_opened p.log

  -- one call more
  pub stayed_more : (s : PlayerStrips K.group.Carrier) (script : List PlayerCall) (call : PlayerCall) (answer : Option (Answer C)) (old mid new : PlayerStrips C) →
      let p = played K r d s script in
      Stayed p old mid → option_map (answer_meant K) answer ≡ said_to K r d (length (standing p.log).cells) call p.strips →
      StaysPast (written_after answer call (length (standing p.log).cells)) mid new → Stayed (played_more K r d p call) old new
  stayed_more s script call answer old mid new stayed said more =
      let p = played K r d s script in
      let L : ℕ = length (standing p.log).cells in
      let m : ℕ = longest_opened (logged K r d L call p.strips p.log) in
      record {
        past = stays-more (longest_opened p.log) m (written_after answer call L) old mid new (longer p.log call p.strips L) (written-within p.log call p.strips L stayed.standing_within answer said) stayed.past more;
        standing_within = subst (λ n. n ≤ m) (cells_stand K r d s script call) (cells-within p.log call p.strips L stayed.standing_within);
      }
