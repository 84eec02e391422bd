-- What the definitions of the calls mean: when each stop code fits a call, and what a step does to the cells. Assumes nothing.
use Rattle.std.specs.Prelude.{◌≡◌, ℕ, ◌<◌, ◌≤◌, ◌⊎◌, List, length, take, Ok, Err, Result, slice_index}
use Rattle.fault.specs.declared.Stop.TheVariants.{BadLength, ShortStrip, BadPosition, BadLetter}
use Rattle.fault.specs.Limits.{most_cells}
use Rattle.fault.specs.Refusals.{Refusal, refused_at}
use Rattle.charge.specs.Groups.{Kind}
use Rattle.automaton.specs.Meanings.{Local, Weights, next}
use Rattle.player.specs.Calls.{PlayerCall, PlayerStrips, call_letters, call_checked, outcome}
use Rattle.player.specs.Calls.PlayerCall.{opens, touches, steps, reads, closes}

-- the ring of L cells that open is given has none, or more than a ring may have
abbrev pub BadSize : ℕ → PlayerCall → Type 0
BadSize L (opens ring) = (L < 1) ⊎ (most_cells < L)
BadSize L (touches i a) = ⊥
BadSize L steps = ⊥
BadSize L (reads i) = ⊥
BadSize L closes = ⊥

-- a strip that the call reads or writes has fewer than L entries
abbrev pub Short : {A : Type 0} → ℕ → PlayerCall → PlayerStrips A → Type 0
Short L (opens ring) s = (length s.cells < L) ⊎ ((length s.opening < L) ⊎ ((length s.crossed < L) ⊎ (length s.touched < L)))
Short L (touches i a) s = (length s.cells < L) ⊎ (length s.touched < L)
Short L steps s = (length s.cells < L) ⊎ ((length s.spare < L) ⊎ (length s.crossed < L))
Short L (reads i) s = (length s.cells < L) ⊎ ((length s.opening < L) ⊎ ((length s.crossed < L) ⊎ (length s.touched < L)))
Short L closes s = ⊥

-- the position that the call is given is not below L
abbrev pub OffRing : ℕ → PlayerCall → Type 0
OffRing L (opens ring) = ⊥
OffRing L (touches i a) = L ≤ i
OffRing L steps = ⊥
OffRing L (reads i) = L ≤ i
OffRing L closes = ⊥

-- the letter at place p is the first that is not below q
abbrev pub FirstOffender : ℕ → List ℕ → ℕ → Type 0
FirstOffender q w p = (p < length w) × (q ≤ slice_index w p) × ((j : ℕ) → j < p → slice_index w j < q)

-- a refusal fits a call on a ring of L cells
abbrev pub Fits : {A : Type 0} → ℕ → ℕ → PlayerCall → PlayerStrips A → Refusal → Type 0
Fits q L call s f =
    ((f ≡ refused_at BadLength 0) × BadSize L call)
    ⊎ (((f ≡ refused_at ShortStrip 0) × Short L call s)
    ⊎ (((f ≡ refused_at BadPosition 0) × OffRing L call)
    ⊎ ((f ≡ refused_at BadLetter f.1) × FirstOffender q (call_letters L call s) f.1)))

-- a refusal is given that fits, and no lower code does; none is given where none fits
abbrev pub LowestOf : (Refusal → Type 0) → Result (Unit {0}) Refusal → Type 0
LowestOf Fit (Ok t) = (f : Refusal) → Fit f → ⊥
LowestOf Fit (Err f) = Fit f × ((g : Refusal) → Fit g → f.0 ≤ g.0)

module _ {C : Type 0} (K : Kind C) where
  -- what a call is refused by is the lowest that fits
  abbrev pub RefusalsFit : Type 0
  RefusalsFit = (q L : ℕ) (call : PlayerCall) (s : PlayerStrips K.group.Carrier) → LowestOf (Fits q L call s) (call_checked q L call s)

  -- an accepted step leaves the ring automaton's next ring in the cells, and the ring as it stood in the spare cells
  abbrev pub StepsOn : Type 0
  StepsOn = (r : Local) (d : Weights K.group.Carrier) (L : ℕ) (s : PlayerStrips K.group.Carrier) → call_checked r.q L steps s ≡ Ok tt →
      (take L (outcome K r d L steps s).left.cells ≡ next r (take L s.cells)) × (take L (outcome K r d L steps s).left.spare ≡ take L s.cells)
