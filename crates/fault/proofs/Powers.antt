-- Powers within the limits, and beyond them. Assumes nothing.
use Rattle.std.proofs.Common.{◌≡◌, ℕ, ◌^◌, ◌<◌, ◌≤◌, Bool, true, false, cond, ◌&&◌, Some, None, refl, le_trans, arith, lit<}
use native.Mathlib.Nat.{pow-le-pow_left, pow-le-pow_right}
use borrow.Author.Tests.{lt-leb}
use Rattle.fault.specs.Limits.{most_words, within, word_count}

pub power_bound : (q m : ℕ) → q ≤ 8 → m ≤ 12 → q ^ m ≤ 8 ^ 12
power_bound q m hq hm = le_trans (pow-le-pow_left hq m) (pow-le-pow_right {n = 8} (lit< tt) hm)

-- 13 letters of the smallest alphabet have too many words
pub too_many : (q m : ℕ) → 2 ≤ q → 12 < m → 4096 < q ^ m
too_many q m hq hm =
    let a : 2 ^ 13 ≤ 2 ^ m = pow-le-pow_right {n = 2} (lit< tt) {i = 13} {j = m} (omega arith) in
    let b : 2 ^ m ≤ q ^ m = pow-le-pow_left hq m in
    omega arith

pub words-past : (q m : ℕ) → 2 ≤ q → 12 < m → word_count q m ≡ None
words-past q m hq hm = rw (lt-leb (q ^ m) most_words (too_many q m hq hm)) (none (within 2 9 q))
  where
    none : (t : Bool) → cond (t && false) (Some (q ^ m)) None ≡ None
    none true = refl
    none false = refl
