-- A label by its charges, and what it is held to. Assumes nothing.
use Rattle.std.specs.Prelude.{◌≡◌, ℕ, ◌^◌, ◌≤◌, List, length, slice_index_or}
use Rattle.fault.specs.Limits.{most_words}
use Rattle.charge.specs.Groups.{Group}
use Rattle.automaton.specs.Words.{code}
use Rattle.automaton.specs.Meanings.{Weights, DensityLimits, Weighed}

-- A label: q letters, and a charge for each word of m letters, in the order of the codes.
pub record LabelList (A : Type 0) : Type 0 where
  pub q : ℕ
  pub m : ℕ
  pub charges : List A

-- the sizes are within their limits, the words are few, and there is a charge for each word
pub record Labelled {A : Type 0} (d : LabelList A) : Type 0 where
  pub sizes : DensityLimits d.q d.m
  pub few : d.q ^ d.m ≤ most_words
  pub each : length d.charges ≡ d.q ^ d.m

-- the charge that a label gives a word
abbrev pub label_at : (G : Group) → LabelList G.Carrier → List ℕ → G.Carrier
label_at G d w = slice_index_or d.charges (code d.q w) G.zero

-- a label as a density, whose total of a ring is the sum of the label over all windows
abbrev pub label_weights : {A : Type 0} → LabelList A → Weights A
label_weights d = record { q = d.q; k = d.m; charges = d.charges }

-- such a density is lawful
pub labelled_weighed : {A : Type 0} (d : LabelList A) → Labelled d → Weighed (label_weights d)
labelled_weighed d label = record { sizes = label.sizes; each = label.each }
