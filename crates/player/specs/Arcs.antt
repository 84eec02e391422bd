-- What the meters of an arc read, by the readings of all sites. Assumes nothing.
use Rattle.std.specs.Prelude.{ℕ, cond, ◌&&◌, List, map, length, Some, None, Option, nat_lt, nat_le}
use Rattle.charge.specs.Groups.{Kind}
use Rattle.automaton.specs.Words.{round}
use Rattle.player.specs.declared.arc.ArcReading.{ArcReading}
use Rattle.player.specs.declared.meters.Reading.{Reading}
use Rattle.player.specs.Logs.{ArcMeters, arc_meters}

module _ {C : Type 0} (K : Kind C) where
  -- an arc's meters by what the charges mean
  abbrev pub arc_means : ArcReading C → ArcMeters K.group.Carrier
  arc_means a = record { opening = K.means a.opening; into = K.means a.into; out = K.means a.out; touched = K.means a.touched; now = K.means a.now }

  -- one meter of each site, which is also that of site i + L
  abbrev pub meter : (Reading C → C) → List (Reading C) → ℕ → K.group.Carrier
  meter part readings i = round K.group.zero (map (λ m. K.means (part m)) readings) i

  -- the arc of n sites from site a on, where the ring has site a and no fewer than n sites
  abbrev pub arc_of : List (Reading C) → ℕ → ℕ → Option (ArcMeters K.group.Carrier)
  arc_of readings a n =
      cond (nat_lt a (length readings) && nat_le n (length readings))
      (Some (arc_meters K.group (meter (λ m. m.opening) readings) (meter (λ m. m.crossed) readings) (meter (λ m. m.touched) readings) (meter (λ m. m.now) readings) a n))
      None
