-- The calls of a player: when each is refused, what it makes of a ring and its strips, and what it answers. Assumes nothing.
use Rattle.std.specs.Prelude.{◌≡◌, ℕ, suc, ◌+◌, ◌-◌, Bool, List, [], ◌∷◌, ◌++◌, length, take, drop, set, min, Ok, Err, Result, nat_le, nat_lt, slice_index_or}
use Rattle.fault.specs.declared.Stop.{Stop}
use Rattle.fault.specs.declared.Stop.TheVariants.{BadLength, ShortStrip, BadPosition, BadLetter}
use Rattle.fault.specs.Answers.{and_then}
use Rattle.fault.specs.Checks.{tested, each_fits}
use Rattle.fault.specs.Limits.{most_cells, within}
use Rattle.fault.specs.Refusals.{Refusal}
use Rattle.charge.specs.Groups.{Group, Kind, minus}
use Rattle.automaton.specs.Words.{window, table, cell, before}
use Rattle.automaton.specs.Meanings.{Local, Weights, next, site, booking_offset}
use Rattle.criterion.specs.Search.{padding, J}
use Rattle.bench.specs.Labels.{rule_label_list}

-- open takes a ring, touch a position and a letter, read a position
pub data PlayerCall : Type 0 where
  opens : List ℕ → PlayerCall
  touches : ℕ → ℕ → PlayerCall
  steps : PlayerCall
  reads : ℕ → PlayerCall
  closes : PlayerCall

-- a call is done, or answers a site's opening, crossed and touched charges and its charge now, or is refused
pub data PlayerAnswer (A : Type 0) : Type 0 where
  done : PlayerAnswer A
  reading : A → A → A → A → PlayerAnswer A
  refused : Refusal → PlayerAnswer A

-- a ring of L cells, with three charges a site
pub record PlayerRing (A : Type 0) : Type 0 where
  pub cells : List ℕ
  pub opening : List A
  pub crossed : List A
  pub touched : List A

-- The five strips of a caller, each of any length. A call looks only at those that it reads or writes.
pub record PlayerStrips (A : Type 0) : Type 0 where
  pub cells : List ℕ
  pub spare : List ℕ
  pub opening : List A
  pub crossed : List A
  pub touched : List A

-- how many cells the ring of a call has: the ring that open is given, or else the ring of L cells that is open
abbrev pub size : PlayerCall → ℕ → ℕ
size (opens ring) L = length ring
size (touches i a) L = L
size steps L = L
size (reads i) L = L
size closes L = L

-- what a call on a ring of L cells is held to, in the order of the stop codes
abbrev pub tests : {A : Type 0} → ℕ → PlayerCall → PlayerStrips A → List (Bool × Stop)
tests L (opens ring) s =
    (within 1 (suc most_cells) L, BadLength)
    ∷ (nat_le L (min (min (min (length s.cells) (length s.opening)) (length s.crossed)) (length s.touched)), ShortStrip)
    ∷ []
tests L (touches i a) s = (nat_le L (min (length s.cells) (length s.touched)), ShortStrip) ∷ (nat_lt i L, BadPosition) ∷ []
tests L steps s = (nat_le L (min (min (length s.cells) (length s.spare)) (length s.crossed)), ShortStrip) ∷ []
tests L (reads i) s =
    (nat_le L (min (min (min (length s.cells) (length s.opening)) (length s.crossed)) (length s.touched)), ShortStrip)
    ∷ (nat_lt i L, BadPosition)
    ∷ []
tests L closes s = []

-- the letters that a call is held to last: those of the ring, and then the letter of a touch
abbrev pub call_letters : {A : Type 0} → ℕ → PlayerCall → PlayerStrips A → List ℕ
call_letters L (opens ring) s = ring
call_letters L (touches i a) s = take L s.cells ++ (a ∷ [])
call_letters L steps s = take L s.cells
call_letters L (reads i) s = take L s.cells
call_letters L closes s = []

-- the refusal of a call, if there is one, by the strips that it is handed
abbrev pub call_checked : {A : Type 0} → ℕ → ℕ → PlayerCall → PlayerStrips A → Result (Unit {0}) Refusal
call_checked q L call s = and_then (tested (tests L call s)) (λ _. each_fits (λ a. nat_lt a q) BadLetter 0 (call_letters L call s))

-- x where a call has passed its tests, and y of its refusal otherwise
abbrev pub passed_or : {X : Type 0} → Result (Unit {0}) Refusal → X → (Refusal → X) → X
passed_or (Ok t) x y = x
passed_or (Err f) x y = y f

-- f i is added to each entry i
abbrev pub booked : (G : Group) → (ℕ → G.Carrier) → List G.Carrier → List G.Carrier
booked G f xs = table (length xs) (λ i. G.add (slice_index_or xs i G.zero) (f i))

-- the first L entries of a caller's strips
abbrev pub ring_in : {A : Type 0} → ℕ → PlayerStrips A → PlayerRing A
ring_in L s = record { cells = take L s.cells; opening = take L s.opening; crossed = take L s.crossed; touched = take L s.touched }

-- a step keeps the cells as they stood
abbrev pub spared : {A : Type 0} → ℕ → PlayerCall → PlayerStrips A → List ℕ
spared L (opens ring) s = s.spare
spared L (touches i a) s = s.spare
spared L steps s = take L s.cells ++ drop L s.spare
spared L (reads i) s = s.spare
spared L closes s = s.spare

-- what a call answers, and the strips as it leaves them
pub record CallOutcome (A : Type 0) : Type 0 where
  pub said : PlayerAnswer A
  pub left : PlayerStrips A

-- a rule and a density that make a bench
module _ {C : Type 0} (K : Kind C) (r : Local) (d : Weights K.group.Carrier) where
  -- the charge of each site
  abbrev pub charges : List ℕ → ℕ → K.group.Carrier
  charges c i = site K.group booking_offset d c i

  -- what crosses into site i in a step: J of the m - 1 cells from cell i - l on
  abbrev pub crossing_at : List ℕ → ℕ → K.group.Carrier
  crossing_at c i = J K padding (rule_label_list K.group r d) (window (r.n + d.k - 2) (cell c) (before (length c) r.l i))

  -- a ring as it is opened
  abbrev pub opened : List ℕ → PlayerRing K.group.Carrier
  opened c = record {
    cells = c;
    opening = table (length c) (charges c);
    crossed = table (length c) (λ _. K.group.zero);
    touched = table (length c) (λ _. K.group.zero);
  }

  -- a ring with letter a put into cell i: each site is touched by its charge afterwards less its charge before
  abbrev pub put : ℕ → ℕ → PlayerRing K.group.Carrier → PlayerRing K.group.Carrier
  put i a p = record {
    cells = set p.cells i a;
    opening = p.opening;
    crossed = p.crossed;
    touched = booked K.group (λ j. minus K.group (charges (set p.cells i a) j) (charges p.cells j)) p.touched;
  }

  -- a ring after one step: each site is crossed by what crosses into it
  abbrev pub stepped : PlayerRing K.group.Carrier → PlayerRing K.group.Carrier
  stepped p = record {
    cells = next r p.cells;
    opening = p.opening;
    crossed = booked K.group (crossing_at p.cells) p.crossed;
    touched = p.touched;
  }

  -- what a call that is not refused makes of a ring
  abbrev pub work : PlayerCall → PlayerRing K.group.Carrier → PlayerRing K.group.Carrier
  work (opens ring) p = opened ring
  work (touches i a) p = put i a p
  work steps p = stepped p
  work (reads i) p = p
  work closes p = p

  -- and what it answers
  abbrev pub call_answer : PlayerCall → PlayerRing K.group.Carrier → PlayerAnswer K.group.Carrier
  call_answer (opens ring) p = done
  call_answer (touches i a) p = done
  call_answer steps p = done
  call_answer (reads i) p =
      let at : List K.group.Carrier → K.group.Carrier = λ xs. slice_index_or xs i K.group.zero in
      reading (at p.opening) (at p.crossed) (at p.touched) (charges p.cells i)
  call_answer closes p = done

  -- a call that is not refused works on the first L entries of the strips, and those past L stay
  abbrev pub worked : ℕ → PlayerCall → PlayerStrips K.group.Carrier → CallOutcome K.group.Carrier
  worked L call s = record {
    said = call_answer call (ring_in L s);
    left = record {
      cells = (work call (ring_in L s)).cells ++ drop L s.cells;
      spare = spared L call s;
      opening = (work call (ring_in L s)).opening ++ drop L s.opening;
      crossed = (work call (ring_in L s)).crossed ++ drop L s.crossed;
      touched = (work call (ring_in L s)).touched ++ drop L s.touched;
    };
  }

  -- A call on a ring of L cells, by the strips that it is handed. A refused call leaves all as it was.
  abbrev pub outcome : ℕ → PlayerCall → PlayerStrips K.group.Carrier → CallOutcome K.group.Carrier
  outcome L call s = passed_or (call_checked r.q L call s) (worked L call s) (λ f. record { said = refused f; left = s })

  -- the promise of a call: what it answers, and how it leaves the strips
  abbrev pub Does : ℕ → PlayerCall → PlayerStrips K.group.Carrier → PlayerAnswer K.group.Carrier → PlayerStrips K.group.Carrier → Type 0
  Does L call handed said left = outcome L call handed ≡ record { said = said; left = left }
