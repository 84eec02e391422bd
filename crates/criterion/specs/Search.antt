-- Whether a word fails, which fails first, and the ring that shows it. Assumes nothing.
use Rattle.std.specs.Prelude.{ℕ, zero, suc, ◌-◌, ◌*◌, ◌^◌, Bool, cond, not, ◌&&◌, List, take, drop, Some, None, Ok, Err, Option, Result, nat_le}
use Rattle.std.specs.Option.{option_map}
use Rattle.fault.specs.declared.Stop.TheVariants.{ShortStrip}
use Rattle.fault.specs.Limits.{most_window}
use Rattle.fault.specs.Refusals.{Refusal, refused_at}
use Rattle.charge.specs.Groups.{Kind, minus}
use Rattle.automaton.specs.Words.{word, table}
use Rattle.criterion.specs.Labelled.{LabelList, label_at}
use Rattle.criterion.specs.Balance.{ring_sum, crossing, ring_a, ring_b}

-- the letter that words and rings are padded with
abbrev pub padding : ℕ
padding = 0

-- the most cells of a ring that shows a failing word: the longest word and a letter less of padding
abbrev pub most_shown : ℕ
most_shown = 2 * most_window - 1

-- the first of the n numbers from i on that passes a test
abbrev pub first_of : (ℕ → Bool) → ℕ → ℕ → Option ℕ
first_of test i zero = None
first_of test i (suc n) = cond (test i) (Some i) (first_of test (suc i) n)

-- whether the labels of a ring sum to zero
abbrev pub sums_to_zero : {C : Type 0} → (K : Kind C) → LabelList K.group.Carrier → List ℕ → Bool
sums_to_zero K d c = K.same (ring_sum K.group (label_at K.group d) d.m c) K.group.zero

module _ {C : Type 0} (K : Kind C) (z : ℕ) (d : LabelList K.group.Carrier) where
  -- the crossing J of a word of m - 1 letters
  abbrev pub J : List ℕ → K.group.Carrier
  J v = crossing K.group (label_at K.group d) z d.m v

  -- the crossings of all words of m - 1 letters, in the order of the codes
  abbrev pub crossings : List K.group.Carrier
  crossings = table (d.q ^ (d.m - 1)) (λ v. J (word d.q (d.m - 1) v))

  -- what the strips for crossings and for a ring have to hold
  abbrev pub with_room : ℕ → ℕ → {X : Type 0} → X → Result X Refusal
  with_room crossing_room ring_room x =
      cond (nat_le (d.q ^ (d.m - 1)) crossing_room && nat_le (2 * d.m - 1) ring_room) (Ok x) (Err (refused_at ShortStrip 0))

  -- a word fails if its label is not J of its first m - 1 letters less J of its last m - 1 letters
  abbrev pub fails : List ℕ → Bool
  fails w = not (K.same (label_at K.group d w) (minus K.group (J (take (d.m - 1) w)) (J (drop 1 w))))

  -- the smallest code of a word that fails
  abbrev pub failing : Option ℕ
  failing = first_of (λ c. fails (word d.q d.m c)) 0 (d.q ^ d.m)

  -- the ring that shows that a word fails: ring A, unless its labels sum to zero, and then ring B
  abbrev pub shown : List ℕ → List ℕ
  shown w = cond (sums_to_zero K d (ring_a z d.m w)) (ring_b z d.m w) (ring_a z d.m w)

  -- the failing word by its code, with the ring that shows it
  abbrev pub failure : Option (ℕ × List ℕ)
  failure = option_map (λ c. (c, shown (word d.q d.m c))) failing
