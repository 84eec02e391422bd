-- What the calls on an open ring promise, by the strips that a caller lends. Assumes nothing.
use Rattle.std.specs.Prelude.{◌≡◌, ℕ, List, [], length, map, take, set, Ok, Err, Result}
use Rattle.std.specs.Borrow.{MutBor}
use Rattle.fault.specs.Refusals.{Refusal}
use Rattle.charge.specs.Groups.{Kind, minus}
use Rattle.criterion.specs.ChargeStrips.{FrontMeans}
use Rattle.charge.specs.declared.Charge.{Ghosts as ChargeOf}
use Rattle.automaton.specs.declared.rule.Rule.{Ghosts as RuleOf}
use Rattle.automaton.specs.declared.density.Density.{Ghosts as DensityOf}
use Rattle.bench.specs.declared.state.Draft.{Draft}
use Rattle.bench.specs.declared.state.Holding.{Holding}
use Rattle.bench.specs.declared.state.Breaking.{Breaking}
use Rattle.bench.specs.declared.state.Refused.{Refused}
use Rattle.bench.specs.declared.state.Verdict.{Verdict}
use Rattle.player.specs.declared.player.Player.{Player}
use Rattle.bench.specs.Answers.{verdict_parts}
use Rattle.bench.specs.Benches.{Bench}
use Rattle.bench.specs.States.{holding_bench, rule_of, density_of, holding_of, draft_parts, holding_parts, breaking_parts}
use Rattle.player.specs.declared.ledger.Ledger.{Ledger}
use Rattle.player.specs.declared.playing.Playing.{Playing}
use Rattle.player.specs.declared.sites.Sites.{Sites}
use Rattle.player.specs.declared.sites.CrossingCharges.{CrossingCharges}
use Rattle.player.specs.Answers.{of_player, open_cells}
use Rattle.player.specs.Calls.{PlayerCall, PlayerAnswer, PlayerRing, PlayerStrips, charges, crossing_at, booked, call_checked, Does}
use Rattle.player.specs.Calls.PlayerCall.{closes}
use Rattle.player.specs.Calls.PlayerAnswer.{done}
use Rattle.player.specs.Logs.{GoesOn}

-- an open ring: the bench that it is played on, and how many cells it has
pub record OpenRing {C : Type 0} (K : Kind C) : Type 0 where
  pub bench : Bench K
  pub len : ℕ

module _ {C R D : Type 0} {c : ChargeOf C} {r : RuleOf R} {d : DensityOf D C} where
  -- the ring that is open, and the holding bench under it
  abbrev pub open_ring : Playing C R D c r d → OpenRing c.kind
  open_ring p = record { bench = holding_bench p.bench; len = p.len }

  -- the ring of some cells that is opened on a holding bench
  abbrev pub ring_on : Holding C R D c r d → ℕ → OpenRing c.kind
  ring_on b len = record { bench = holding_bench b; len = len }

  abbrev pub holding_under : Playing C R D c r d → Holding C R D c r d
  holding_under p = p.bench

  abbrev pub ring_len : Playing C R D c r d → ℕ
  ring_len p = p.len

  -- the holding bench of a player in either state
  abbrev pub player_holding : Player (Holding C R D c r d) (Playing C R D c r d) → Holding C R D c r d
  player_holding p = of_player (λ h. h) (λ p. p.bench) p

  abbrev pub player_ring : Player (Holding C R D c r d) (Playing C R D c r d) → OpenRing c.kind
  player_ring p = record { bench = holding_bench (player_holding p); len = open_cells ring_len p }

  -- what is performed hands on the rule and the density of a draft, and a refusal the draft as it is
  abbrev pub HandsOnPlayer : Draft C R D c r d → Result (Verdict C (Player (Holding C R D c r d) (Playing C R D c r d)) (Breaking C R D c r d)) (Refused (Draft C R D c r d)) → Type 0
  HandsOnPlayer draft (Ok verdict) = verdict_parts (λ p. holding_parts (player_holding p)) breaking_parts verdict ≡ draft_parts draft
  HandsOnPlayer draft (Err e) = e.state ≡ draft

-- sites of a ring: the ring
module _ {C R D : Type 0} {c : ChargeOf C} {r : RuleOf R} {d : DensityOf D C} where
  abbrev pub sites_ring : Sites C R D c r d → OpenRing c.kind
  sites_ring s = record { bench = holding_bench s.bench.now; len = length s.ring.cells.now }

  -- the charges of the sites, and what crosses into each in a step, by a kind
  abbrev pub charges_at : (K : Kind C) → Sites C R D c r d → ℕ → K.group.Carrier
  charges_at K s = charges K (r.meaning (rule_of s.bench.now)) (d.weights K (density_of s.bench.now)) s.ring.cells.now

  abbrev pub crossings_at : (K : Kind C) → CrossingCharges C R D c r d → ℕ → K.group.Carrier
  crossings_at K s =
      let b = holding_of s.crossings in crossing_at K (r.meaning (rule_of b)) (d.weights K (density_of b)) s.ring.cells.now

module _ {C : Type 0} {K : Kind C} (b : Bench K) where
  -- the charge of each site of a ring, what crosses into it in a step, and what it gains by a letter in a cell
  abbrev pub site_charges : List ℕ → ℕ → K.group.Carrier
  site_charges = charges K b.rule b.density

  abbrev pub site_crossings : List ℕ → ℕ → K.group.Carrier
  site_crossings = crossing_at K b.rule b.density

  abbrev pub touch_gain : ℕ → ℕ → List ℕ → ℕ → K.group.Carrier
  touch_gain i a cells j = minus K.group (site_charges (set cells i a) j) (site_charges cells j)

-- f i is added to each of the first n charges of a strip, whose other charges stay
abbrev pub Books : {C : Type 0} → (K : Kind C) → ℕ → (ℕ → K.group.Carrier) → List C → List C → Type 0
Books K n f old new = FrontMeans K (booked K.group f (take n (map K.means old))) old new

-- the strips that a call takes: those that it does not take have no place here
abbrev pub step_strips : {C : Type 0} → List ℕ → List ℕ → List C → PlayerStrips C
step_strips cells spare crossed = record { cells = cells; spare = spare; opening = []; crossed = crossed; touched = [] }

abbrev pub touch_strips : {C : Type 0} → List ℕ → List C → PlayerStrips C
touch_strips cells touched = record { cells = cells; spare = []; opening = []; crossed = []; touched = touched }

abbrev pub all_strips : {C : Type 0} → List ℕ → List ℕ → List C → List C → List C → PlayerStrips C
all_strips cells spare opening crossed touched = record { cells = cells; spare = spare; opening = opening; crossed = crossed; touched = touched }

-- open and read take these
abbrev pub meter_strips : {C : Type 0} → List ℕ → List C → List C → List C → PlayerStrips C
meter_strips cells opening crossed touched = record { cells = cells; spare = []; opening = opening; crossed = crossed; touched = touched }

-- the charges of a ledger's sites as they stand, and that two ledgers, or a ledger and what is lent, are over one strip
abbrev pub ledger_charges : {C : Type 0} → Ledger C → List C
ledger_charges l = l.sites.now

abbrev pub IsOver : {C : Type 0} → MutBor (List C) → Ledger C → Type 0
IsOver strip l = l.sites.ghost_name ≡ strip.ghost_name

abbrev pub SameStrip : {C : Type 0} → Ledger C → Ledger C → Type 0
SameStrip l m = m.sites.ghost_name ≡ l.sites.ghost_name

-- strips by what their charges mean
abbrev pub meant : {C : Type 0} → (K : Kind C) → PlayerStrips C → PlayerStrips K.group.Carrier
meant K s = record {
  cells = s.cells;
  spare = s.spare;
  opening = map K.means s.opening;
  crossed = map K.means s.crossed;
  touched = map K.means s.touched;
}

module _ {C : Type 0} {K : Kind C} (ring : OpenRing K) where
  -- the refusal of a call, if there is one, by the strips that it is handed
  abbrev pub tested_by : PlayerCall → PlayerStrips C → Result (Unit {0}) Refusal
  tested_by call s = call_checked ring.bench.rule.q ring.len call (meant K s)

  -- the promise of a call: what it answers, and how it leaves the strips
  abbrev pub DoesOn : PlayerCall → PlayerStrips C → PlayerAnswer K.group.Carrier → PlayerStrips C → Type 0
  DoesOn call old said new = Does K ring.bench.rule ring.bench.density ring.len call (meant K old) said (meant K new)

  -- Wherever this ring stands a close goes on, whatever strips there are: it is done, and leaves each as it is.
  abbrev pub ClosesAnywhere : Type 0
  ClosesAnywhere = (p : PlayerRing K.group.Carrier) → length p.cells ≡ ring.len → (s : PlayerStrips K.group.Carrier) →
      GoesOn K ring.bench.rule ring.bench.density p (record { call = closes; handed = s; got = record { said = done; left = s } })
