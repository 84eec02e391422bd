-- Logs of a player's calls, the plain ring, and what holds on each line of a log without gaps. Assumes nothing.
use Rattle.std.specs.Prelude.{◌≡◌, ℕ, ◌+◌, ◌≤◌, max, Bool, true, List, [], length, Ok, nat_le, nat_eq}
use Rattle.charge.specs.Groups.{Group, Kind, minus, sum_over}
use Rattle.automaton.specs.Words.{round}
use Rattle.automaton.specs.Meanings.{Local, Weights, Lawful, Weighed}
use Rattle.bench.specs.Benches.{Bench, bench_of}
use Rattle.bench.specs.Laws.{KeepsTotal}
use Rattle.bench.specs.Verdicts.{bench_checked}
use Rattle.player.specs.Calls.{PlayerCall, PlayerAnswer, PlayerRing, PlayerStrips, CallOutcome, size, call_checked, passed_or, ring_in, charges, work, call_answer, Does}
use Rattle.player.specs.Calls.PlayerCall.{opens, touches, steps, reads, closes}
use Rattle.player.specs.Calls.PlayerAnswer.{done, reading, refused}

-- a call, the strips that it was handed, what it answered and how it left them
pub record LogLine (A : Type 0) : Type 0 where
  pub call : PlayerCall
  pub handed : PlayerStrips A
  pub got : CallOutcome A

infixl 4 ◌then◌
-- the lines of a log, from the making of a bench on
pub data Log (A : Type 0) : Type 0 where
  made : Log A
  ◌then◌ : Log A → LogLine A → Log A

-- no ring is open: a ring of no cells
abbrev pub no_ring : {A : Type 0} → PlayerRing A
no_ring = record { cells = []; opening = []; crossed = []; touched = [] }

-- L is how many cells the open ring has, 0 where none is open: the states allow open at 0, and the other calls above 0
abbrev pub allowed : PlayerCall → ℕ → Bool
allowed (opens ring) L = nat_eq L 0
allowed (touches i a) L = nat_le 1 L
allowed steps L = nat_le 1 L
allowed (reads i) L = nat_le 1 L
allowed closes L = nat_le 1 L

-- close ends the ring
abbrev pub ended : {A : Type 0} → PlayerCall → PlayerRing A → PlayerRing A
ended (opens ring) p = p
ended (touches i a) p = p
ended steps p = p
ended (reads i) p = p
ended closes p = no_ring

-- the strips that a call reads or writes, of p; the others, of o
abbrev pub used : {A : Type 0} → PlayerCall → PlayerRing A → PlayerRing A → PlayerRing A
used (opens ring) p o = p
used (touches i a) p o = record { cells = p.cells; opening = o.opening; crossed = o.crossed; touched = p.touched }
used steps p o = record { cells = p.cells; opening = o.opening; crossed = p.crossed; touched = o.touched }
used (reads i) p o = p
used closes p o = o

-- x after a call that was accepted, y after one that was refused
abbrev pub accepted : {A X : Type 0} → PlayerAnswer A → X → X → X
accepted done x y = x
accepted (reading o c t n) x y = x
accepted (refused f) x y = y

abbrev pub Accepted : {A : Type 0} → PlayerAnswer A → Type 0
Accepted done = Unit {0}
Accepted (reading o c t n) = Unit {0}
Accepted (refused f) = ⊥

-- the first L entries of the four strips, as the last accepted call left them
abbrev pub standing : {A : Type 0} → Log A → PlayerRing A
standing made = no_ring
standing (log then line) =
    let p = standing log in
    accepted line.got.said (ended line.call (used line.call (ring_in (size line.call (length p.cells)) line.got.left) p)) p

-- how many cells the ring has that a call opens, and the longest ring that was opened in a log
abbrev pub ring_opened : PlayerCall → ℕ
ring_opened (opens ring) = length ring
ring_opened (touches i a) = 0
ring_opened steps = 0
ring_opened (reads i) = 0
ring_opened closes = 0

abbrev pub longest_opened : {A : Type 0} → Log A → ℕ
longest_opened made = 0
longest_opened (log then line) = max (longest_opened log) (accepted line.got.said (ring_opened line.call) 0)

-- a touch, a step and a read are handed what stands, in the first L entries of the strips that they read or write
abbrev pub HandedOn : {A : Type 0} → PlayerCall → PlayerStrips A → PlayerRing A → Type 0
HandedOn (opens ring) s p = Unit {0}
HandedOn (touches i a) s p = used (touches i a) (ring_in (length p.cells) s) p ≡ p
HandedOn steps s p = used steps (ring_in (length p.cells) s) p ≡ p
HandedOn (reads i) s p = used (reads i) (ring_in (length p.cells) s) p ≡ p
HandedOn closes s p = Unit {0}

-- what is said of each line of a log, and of the log before it
abbrev pub OnEveryLine : {A : Type 0} → (Log A → LogLine A → Type 0) → Log A → Type 0
OnEveryLine P made = Unit {0}
OnEveryLine P (log then line) = OnEveryLine P log × P log line

-- the sum over the n sites of an arc, from site a on
abbrev pub arc : (G : Group) → (ℕ → G.Carrier) → ℕ → ℕ → G.Carrier
arc G f a n = sum_over G (λ t. f (a + t)) n

-- what the meters say of an arc: its charge at opening, what crossed in and out, what was touched, and its charge now
pub record ArcMeters (A : Type 0) : Type 0 where
  pub opening : A
  pub into : A
  pub out : A
  pub touched : A
  pub now : A

-- by the meters of each site: what crosses in is crossed at site a, and what crosses out at the site after the last
abbrev pub arc_meters : (G : Group) → (opening crossed touched now : ℕ → G.Carrier) → ℕ → ℕ → ArcMeters G.Carrier
arc_meters G opening crossed touched now a n =
    record { opening = arc G opening a n; into = crossed a; out = crossed (a + n); touched = arc G touched a n; now = arc G now a n }

-- the charge now is that at opening, plus what crossed in, less what crossed out, plus what was touched
abbrev pub AddsUp : (G : Group) → ArcMeters G.Carrier → Type 0
AddsUp G m = m.now ≡ G.add (G.add m.opening (minus G m.into m.out)) m.touched

module _ {C : Type 0} (K : Kind C) (r : Local) (d : Weights K.group.Carrier) where
  -- The plain ring is fed calls and what they were handed, and no answers: it keeps cells, opening, crossed and
  -- touched of its own.
  abbrev pub plain_answer : PlayerRing K.group.Carrier → PlayerCall → PlayerStrips K.group.Carrier → PlayerAnswer K.group.Carrier
  plain_answer p call handed = passed_or (call_checked r.q (size call (length p.cells)) call handed) (call_answer K r d call p) refused

  abbrev pub plain_after : PlayerRing K.group.Carrier → PlayerCall → PlayerStrips K.group.Carrier → PlayerRing K.group.Carrier
  plain_after p call handed = passed_or (call_checked r.q (size call (length p.cells)) call handed) (ended call (work K r d call p)) (λ _. p)

  abbrev pub plain : Log K.group.Carrier → PlayerRing K.group.Carrier
  plain made = no_ring
  plain (log then line) = plain_after (plain log) line.call line.handed

  -- A line goes on from where the player stands: the states allow its call, which keeps its promise, and which if it
  -- is accepted was handed what stands.
  pub record GoesOn (p : PlayerRing K.group.Carrier) (line : LogLine K.group.Carrier) : Type 0 where
    pub order : allowed line.call (length p.cells) ≡ true
    pub promise : Does K r d (size line.call (length p.cells)) line.call line.handed line.got.said line.got.left
    pub no_gap : Accepted line.got.said → HandedOn line.call line.handed p

  abbrev pub WithoutGaps : Log K.group.Carrier → Type 0
  WithoutGaps = OnEveryLine (λ log line. GoesOn (standing log) line)

  -- every arc of a ring adds up
  abbrev pub ArcsAgree : PlayerRing K.group.Carrier → Type 0
  ArcsAgree p = (a n : ℕ) → n ≤ length p.cells →
      let at : List K.group.Carrier → ℕ → K.group.Carrier = round K.group.zero in
      AddsUp K.group (arc_meters K.group (at p.opening) (at p.crossed) (at p.touched) (charges K r d p.cells) a n)

  -- the answer is the plain ring's, what stands is what the plain ring keeps, and the arcs add up
  pub record LineTrue (log : Log K.group.Carrier) (line : LogLine K.group.Carrier) : Type 0 where
    pub answers : line.got.said ≡ plain_answer (plain log) line.call line.handed
    pub rings : standing (log then line) ≡ plain (log then line)
    pub arcs : ArcsAgree (standing (log then line))

-- on every line of every log without gaps of a bench
abbrev pub LogsTrueOn : {C : Type 0} {K : Kind C} → Bench K → Type 0
LogsTrueOn {C} {K} b = (log : Log K.group.Carrier) → WithoutGaps K b.rule b.density log → OnEveryLine (LineTrue K b.rule b.density) log

-- of every bench that holds
abbrev pub LogsTrue : {C : Type 0} → Kind C → Type 0
LogsTrue K = (r : Local) (d : Weights K.group.Carrier) → Lawful r → Weighed d → bench_checked (bench_of K r d) ≡ Ok tt → KeepsTotal K.group r d →
    LogsTrueOn (bench_of K r d)
