-- Items of a preset, one after another. Assumes nothing.
use Rattle.std.specs.Prelude.{ℕ, Bool, List, nat_lt}
use Rattle.std.specs.List.{flat_map}
use Rattle.fault.specs.declared.Stop.{Stop}
use Rattle.fault.specs.declared.Stop.TheVariants.{BadLetter, BadEntry}
use Rattle.preset.specs.declared.entry.Entry.{Entry}
use Rattle.preset.specs.declared.item_limits.ItemLimits.{ItemLimits}
use Rattle.preset.specs.Answers.{Parse}
use Rattle.preset.specs.Entries.{letter, entry, fits as entry-fits}

-- How items of one sort are read from the last bytes of an input of some length, which are allowed, and the
-- stop code of the others.
pub record Format (X : Type 0) : Type 0 where
  pub reads : ItemLimits → ℕ → List ℕ → Parse X
  pub fits : ItemLimits → X → Bool
  pub stop : Stop

-- the bytes of items, one after another
abbrev pub sent : {X : Type 0} → (X → List ℕ) → List X → List ℕ
sent sends xs = flat_map sends xs

abbrev pub letter_format : Format ℕ
letter_format = record {
  reads = λ limits. letter limits.q;
  fits = λ limits x. nat_lt x limits.q;
  stop = BadLetter;
}

abbrev pub entry_format : Format Entry
entry_format = record {
  reads = λ limits. entry limits.kind;
  fits = λ limits. entry-fits limits.kind;
  stop = BadEntry;
}
