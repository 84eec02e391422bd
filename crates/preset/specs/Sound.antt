-- What holds of each preset that is read or written. Assumes nothing.
use Rattle.std.specs.Prelude.{◌≡◌, ◌^◌, true, length, nat_lt}
use Rattle.std.specs.List.{AllByRecursion}
use Rattle.charge.specs.Numbers.{number_of}
use Rattle.preset.specs.Entries.{fits}
use Rattle.preset.specs.Presets.{Preset}
use Rattle.preset.specs.Sizes.{Sized}

-- the sizes are in their ranges, and there are as many letters and entries as they say, each allowed
pub record Sound (p : Preset) : Type 0 where
  pub named : number_of p.head.kind ≡ p.head.header.kind
  pub sized : Sized p.head.header
  pub letter_count : length p.letters ≡ p.head.header.q ^ p.head.header.n
  pub entry_count : length p.entries ≡ p.head.header.q ^ p.head.header.k
  pub letters_fit : AllByRecursion (λ x. nat_lt x p.head.header.q ≡ true) p.letters
  pub entries_fit : AllByRecursion (λ e. fits p.head.kind e ≡ true) p.entries
