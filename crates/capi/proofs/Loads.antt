-- How many entries a preset has that was read. Assumes nothing.
use Rattle.std.proofs.Common.{◌+◌, ◌-◌, ◌≤◌, length, subst, sym, le_trans, arith}
use native.Mathlib.Nat.{pow-le-pow_right}
use Rattle.fault.specs.Limits.{most_words}
use Rattle.preset.specs.declared.loaded.Loaded.{Loaded}

pub entries-few : (p : Loaded) → length p.entries.now ≤ most_words
entries-few p =
    let h = p.header in
    let s = p.sound.sized in
    let some : 1 ≤ h.q = omega (arith, s.letters_some) in
    let fewer : h.k ≤ h.n + h.k - 1 = omega (arith, s.window_some) in
    subst (λ n. n ≤ most_words) (sym p.sound.entry_count) (le_trans (pow-le-pow_right some fewer) s.few)
