-- What the search says of all rings. Assumes nothing.
use Rattle.std.specs.Prelude.{◌≡◌, ℕ, ◌-◌, ◌*◌, ◌≤◌, ◌↔◌, List, length, Some, None, Option, ◌≢◌}
use Rattle.charge.specs.Groups.{Kind}
use Rattle.automaton.specs.Words.{Letters}
use Rattle.criterion.specs.Labelled.{LabelList, label_at}
use Rattle.criterion.specs.Balance.{ring_sum, SumsToZero, OnlyTable}
use Rattle.criterion.specs.Search.{J, failure}

module _ {C : Type 0} (K : Kind C) (z : ℕ) (d : LabelList K.group.Carrier) where
  -- where no word fails, J is the only table that balances
  abbrev pub OnlyCrossings : Type 0
  OnlyCrossings = OnlyTable K.group (label_at K.group d) z d.q d.m (J K z d)

  -- a ring on which the label does not sum to zero, of at most 2 m - 1 cells
  abbrev pub BreakingRing : List ℕ → Type 0
  BreakingRing c =
      (1 ≤ length c) × (length c ≤ 2 * d.m - 1) × Letters d.q c × (ring_sum K.group (label_at K.group d) d.m c ≢ K.group.zero)

  -- what is found, in one of two cases
  abbrev pub Shows : Option (ℕ × List ℕ) → Type 0
  Shows None = OnlyCrossings
  Shows (Some f) = BreakingRing f.1

  -- no word fails exactly when the label sums to zero on the rings of every length
  abbrev pub Exact : Type 0
  Exact = (failure K z d ≡ None) ↔ SumsToZero K.group (label_at K.group d) d.q d.m

  abbrev pub LabelLaw : Type 0
  LabelLaw = Exact × Shows (failure K z d)
