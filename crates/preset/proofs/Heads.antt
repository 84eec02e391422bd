-- A header whose sizes are in their ranges. Assumes nothing.
use Rattle.std.proofs.Common.{◌≡◌, ℕ, ◌+◌, ◌-◌, ◌^◌, ◌≤◌, Bool, true, false, cond, List, Some, None, is_some, Ok, sym, refl, arith, lt-ltb, le-leb}
use native.Mathlib.Nat.{pow-le-pow_right}
use Rattle.fault.specs.declared.Stop.TheVariants.{BadAlphabet, BadWindow, BadReach, BadWidth}
use Rattle.fault.specs.Limits.{most_words, within, few_words, word_count}
use Rattle.charge.specs.declared.kind.ChargeKind.{ChargeKind}
use Rattle.charge.specs.Numbers.{number_of}
use Rattle.fault.specs.Checks.{tested}
use Rattle.preset.specs.declared.header.Header.{Header}
use Rattle.preset.specs.Answers.{Parse}
use Rattle.preset.specs.Fields.{field}
use Rattle.preset.specs.Presets.{PresetHead, kind_read, head_read}
use Rattle.preset.specs.Sizes.{Sized}
use Rattle.preset.specs.Writes.{size_tests}

-- a part of a word has no more words than the whole
part-few : (q m n : ℕ) → 1 ≤ q → n ≤ m → q ^ m ≤ most_words → q ^ n ≤ most_words
part-few q m n h k few = omega (arith, pow-le-pow_right h k)

-- where the alphabet is in range, the words are counted if they are few
pub words-few : (q m : ℕ) → within 2 9 q ≡ true → is_some (word_count q m) ≡ few_words q m
words-few q m h = rw h (few (few_words q m))
  where
    few : (t : Bool) → is_some (cond t (Some (q ^ m)) None) ≡ t
    few true = refl
    few false = refl

module _ (h : Header) (s : Sized h) where
  pub letters_few : h.q ^ h.n ≤ most_words
  letters_few = part-few h.q (h.n + h.k - 1) h.n (omega arith) (omega arith) s.few

  pub entries_few : h.q ^ h.k ≤ most_words
  entries_few = part-few h.q (h.n + h.k - 1) h.k (omega arith) (omega arith) s.few

pub head_done : (whole : ℕ) (bs r₁ r₂ r₃ r₄ r₅ : List ℕ) (kind : ChargeKind) (number q n l k : ℕ)
    → Ok (kind, r₁) ≡ kind_read whole bs → Ok (q, r₂) ≡ field whole 2 9 BadAlphabet r₁ → Ok (n, r₃) ≡ field whole 1 13 BadWindow r₂
    → Ok (l, r₄) ≡ field whole 0 n BadReach r₃ → Ok (k, r₅) ≡ field whole 1 13 BadWidth r₄
    → few_words q (n + k - 1) ≡ true → number ≡ number_of kind
    → ◌≡◌ {A = Parse PresetHead} (Ok (record { kind = kind; header = record { kind = number; q = q; n = n; l = l; k = k } }, r₅)) (head_read whole bs)
head_done whole bs r₁ r₂ r₃ r₄ r₅ kind number q n l k e₁ e₂ e₃ e₄ e₅ few is = rw (sym e₁, sym e₂, sym e₃, sym e₄, sym e₅, few, is)

-- sizes in their ranges pass every test
pub sizes_pass : (h : Header) → Sized h → tested (size_tests h) ≡ Ok tt
sizes_pass h s =
    rw (le-leb 2 h.q s.letters_some, lt-ltb h.q 9 (omega arith), le-leb 1 h.n s.window_some, lt-ltb h.n 13 (omega arith), lt-ltb h.l h.n s.reach, le-leb 1 h.k s.width_some, lt-ltb h.k 13 (omega arith), le-leb (h.q ^ (h.n + h.k - 1)) most_words s.few)
