-- How many crossings are written. Assumes nothing.
use Rattle.std.proofs.Common.{◌≡◌, ℕ, ◌+◌, ◌-◌, ◌^◌, ◌≤◌, List, map, length, take, MatchResult, Some, None, Ok, Err, Option, Result, sym, refl, ap, ◌∙◌, le_trans, arith}
use Rattle.std.proofs.lemmas.List.{length-map, length-take}
use native.Mathlib.Nat.{pow-le-pow_right}
use Rattle.std.specs.Option.{option_map}
use Rattle.fault.specs.declared.Fault.{Fault}
use Rattle.fault.specs.Answers.{and_then}
use Rattle.fault.specs.Limits.{most_words}
use Rattle.fault.specs.Refusals.{Refusal}
use Rattle.charge.specs.Groups.{Kind}
use Rattle.automaton.specs.Tables.{length-table}
use Rattle.automaton.specs.Words.{word}
use Rattle.criterion.specs.Answers.{unless_refused}
use Rattle.criterion.specs.Labelled.{LabelList}
use Rattle.criterion.specs.Search.{padding, crossings, J}
use Rattle.preset.specs.Sizes.{Sized}
use Rattle.preset.specs.declared.header.Header.{Header}
use Rattle.bench.specs.declared.state.Break.{Break}
use Rattle.bench.specs.Answers.{found_said}
use Rattle.bench.specs.Verdicts.{broken}

-- whether an answer is a refusal, as a number
refuses : {X : Type 0} → Result X Refusal → ℕ
refuses (Ok x) = 0
refuses (Err f) = 1

answers : {C : Type 0} (K : Kind C) (o : Option (Break C)) → refuses (found_said K (Ok o)) ≡ 0
unfolding refuses
answers K None = refl
answers K (Some b) = refl

module _ {C : Type 0} (K : Kind C) (label : LabelList K.group.Carrier) (first second : List ℕ → K.group.Carrier) where
  pub count-is : (found : Result (Option (ℕ × List ℕ)) Refusal) (o : Option (Break C)) → found_said K (Ok o) ≡ and_then found (λ f. Ok (option_map (broken first second) f))
      → length (unless_refused found (crossings K padding label)) ≡ label.q ^ (label.m - 1)
  unfolding refuses
  count-is (Ok f) o e = length-table (label.q ^ (label.m - 1)) (λ v. J K padding label (word label.q (label.m - 1) v))
  count-is (Err f) o e = let z : ◌≡◌ {A = ℕ} 0 1 = sym (answers K o) ∙ ap refuses e in absurd (omega arith)

  -- as many as there are words, unless the call is refused
  pub counted : (found : Result (Option (ℕ × List ℕ)) Refusal) (answer : Result (Option (Break C)) Fault) (count : ℕ)
      → found_said K answer ≡ and_then found (λ f. Ok (option_map (broken first second) f))
      → MatchResult answer (λ _. count ≡ label.q ^ (label.m - 1)) (λ _. count ≡ 0)
      → count ≡ length (unless_refused found (crossings K padding label))
  unfolding refuses
  counted found (Ok o) count said is = is ∙ sym (count-is found o said)
  counted (Ok f) (Err e) count said is = let z : ◌≡◌ {A = ℕ} 1 0 = ap refuses said in absurd (omega arith)
  counted (Err f) (Err e) count said is = is

-- charges that mean some values are on a strip that has as many
pub meant-room : {C A : Type 0} (means : C → A) (n : ℕ) (strip : List C) (xs : List A) → n ≡ length xs → map means (take (length xs) strip) ≡ xs → n ≤ length strip
meant-room means n strip xs is e =
    let size : length (take (length xs) strip) ≡ length xs = sym (length-map (take (length xs) strip) means) ∙ ap length e in
    omega (arith, is, size, length-take (length xs) strip)

-- there are few words of one letter fewer than a label's
pub crossings_few : (h : Header) → Sized h → h.q ^ (h.n + h.k - 1 - 1) ≤ most_words
crossings_few h s =
    let some : 1 ≤ h.q = omega (arith, s.letters_some) in
    let fewer : h.n + h.k - 1 - 1 ≤ h.n + h.k - 1 = omega arith in
    le_trans (pow-le-pow_right some fewer) s.few
