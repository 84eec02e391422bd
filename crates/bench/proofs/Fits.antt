-- What the sizes of a label have passed. Assumes nothing.
use Rattle.std.proofs.Common.{◌≡◌, ℕ, ◌^◌, ◌≤◌, Ok, ⊎_elim, le_trans, arith}
use native.Mathlib.Nat.{pow-le-pow_right}
use Rattle.std.proofs.lemmas.Bool.{cases_lt}
use Rattle.std.proofs.lemmas.Bool.Decides.{nat_tests}
use Rattle.fault.specs.Answers.{and_then}
use Rattle.fault.specs.Limits.{most_words}
use Rattle.fault.proofs.Powers.{too_many}
use Rattle.automaton.specs.Meanings.{DensityLimits}
use Rattle.bench.specs.Verdicts.{fitting}

fitting_passes : (q other m x : ℕ) → Ok x ≡ and_then (fitting q other m) (λ _. Ok (q ^ m)) → (q ≡ other) × (q ^ m ≤ most_words) × (x ≡ q ^ m)
fitting_passes q other m x e = grind (arith, nat_tests)

-- words that are few are short
short : (q m : ℕ) → 2 ≤ q → q ^ m ≤ most_words → m ≤ 12
short q m some few = ⊎_elim (λ l. absurd (omega (arith, too_many q m some l))) (λ l. l) (cases_lt 12 m)

-- the words that have passed
pub words_sizes : (q other m x : ℕ) → 2 ≤ q → q ≤ 8 → 1 ≤ m → Ok x ≡ and_then (fitting q other m) (λ _. Ok (q ^ m)) → DensityLimits q m × (q ^ m ≤ most_words) × (x ≡ q ^ m)
words_sizes q other m x some most long e =
    let p = fitting_passes q other m x e in
    ((some, most, long, short q m some p.1), p.1, p.2)

-- the words of a part are no more
pub part_few : (q n m : ℕ) → 1 ≤ q → n ≤ m → q ^ m ≤ most_words → q ^ n ≤ most_words
part_few q n m some shorter few = le_trans (pow-le-pow_right some shorter) few
