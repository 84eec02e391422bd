-- What the sizes of a header are held to. Assumes nothing.
use Rattle.std.specs.Prelude.{◌+◌, ◌-◌, ◌^◌, ◌<◌, ◌≤◌}
use Rattle.fault.specs.Limits.{least_letters, most_letters, most_window, most_width, most_words}
use Rattle.preset.specs.declared.header.Header.{Header}

-- each size is in its range, and there are few words of the window and the width together
pub record Sized (h : Header) : Type 0 where
  pub letters_some : least_letters ≤ h.q
  pub letters_most : h.q ≤ most_letters
  pub window_some : 1 ≤ h.n
  pub window : h.n ≤ most_window
  pub reach : h.l < h.n
  pub width_some : 1 ≤ h.k
  pub width : h.k ≤ most_width
  pub few : h.q ^ (h.n + h.k - 1) ≤ most_words
