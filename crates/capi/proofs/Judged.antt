-- What judging a preset answers and writes, from what the judge found on strips of charges. Assumes nothing.
use Rattle.std.proofs.Common.{◌≡◌, ℕ, ◌+◌, ◌-◌, ◌*◌, ◌^◌, ◌≤◌, min, Bool, true, false, cond, ◌&&◌, List, map, length, take, nat_le, MatchResult, Ok, Err, Option, Result, refl, ap, ◌∙◌, subst, leb-true, arith}
use Rattle.std.proofs.lemmas.Bool.{le-leb, lt-leb, leb-false}
use Rattle.fault.specs.declared.Fault.{Fault}
use Rattle.fault.specs.declared.Stop.TheVariants.{ShortStrip}
use Rattle.fault.specs.Answers.{and_then, at_front}
use Rattle.fault.specs.Limits.{most_words}
use Rattle.fault.specs.Refusals.{refused_at}
use Rattle.charge.specs.Groups.{Kind}
use Rattle.automaton.specs.Meanings.{next, total}
use Rattle.criterion.specs.Search.{padding, failure}
use Rattle.preset.specs.Presets.{Preset}
use Rattle.preset.specs.Sending.{Sending}
use Rattle.preset.specs.Sizes.{Sized}
use Rattle.preset.specs.declared.entry.Entry.{Entry}
use Rattle.bench.specs.declared.state.Break.{Break}
use Rattle.bench.specs.Labels.{rule_label_list}
use Rattle.bench.specs.Benches.{bench_of}
use Rattle.bench.specs.Verdicts.{lent, bench_checked}
use Rattle.preset_bench.specs.Finds.{JudgeFinds, preset_bench, preset_rule, preset_density, bench_checked_of, preset_found}
use Rattle.preset_bench.proofs.Counts.{counted, crossings_few}
use Rattle.capi.specs.declared.answers.JudgeAnswer.{JudgeAnswer}
use Rattle.capi.specs.Judging.{JudgedOn, told_of}

-- what a strip of a or of m items has room for is the same up to m
le-min : (n a m : ℕ) → n ≤ m → nat_le n (min a m) ≡ nat_le n a
le-min n a m few = go (nat_le n a) refl
  where
    go : (b : Bool) → nat_le n a ≡ b → nat_le n (min a m) ≡ b
    go true e = let some : n ≤ a = leb-true n a e in le-leb n (min a m) (omega arith)
    go false e = lt-leb n (min a m) (let less = leb-false n a e in omega arith)

module _ {C : Type 0} (K : Kind C) (p : Preset) (charges : List C) (sized : Sized p.head.header) where
  -- no preset needs more room than the largest
  pub room-enough : (room cells : ℕ) → preset_found K p.head.header p.letters charges (min room most_words) cells ≡ preset_found K p.head.header p.letters charges room cells
  room-enough room cells =
      let r = preset_rule p.head.header p.letters in
      let d = preset_density K p.head.header charges in
      let label = rule_label_list K.group r d in
      ap (λ (b : Bool). and_then (bench_checked_of K p.head.header p.letters charges) (λ _. and_then (bench_checked (bench_of K r d)) (λ _.
      cond (b && nat_le (2 * label.m - 1) cells) (Ok (failure K padding label)) (Err (refused_at ShortStrip 0)))))
      (le-min (p.head.header.q ^ (p.head.header.n + p.head.header.k - 1 - 1)) room most_words (crossings_few p.head.header sized))

  pub judged-on : (S : Sending C) (old new : List Entry) (strip ring : List ℕ) (work now : List C) (verdict : Result (Option (Break C)) Fault) (count : ℕ) (answer : JudgeAnswer)
      → map S.entry charges ≡ p.entries → length work ≡ min (length old) most_words
      → JudgeFinds (preset_bench K p.head.header p.letters charges) (preset_found K p.head.header p.letters charges (length work) (length strip)) (lent work strip) (lent now ring) verdict
      → MatchResult verdict (λ _. count ≡ p.head.header.q ^ (p.head.header.n + p.head.header.k - 1 - 1)) (λ _. count ≡ 0)
      → new ≡ at_front (map S.entry (take count now)) old
      → answer ≡ told_of S verdict
      → JudgedOn K S p old new strip ring answer
  judged-on S old new strip ring work now verdict count answer sent size finds many written told =
      let r' = preset_rule p.head.header p.letters in
      let d = preset_density K p.head.header charges in
      let same : preset_found K p.head.header p.letters charges (length work) (length strip) ≡ preset_found K p.head.header p.letters charges (length old) (length strip) =
      ap (λ n. preset_found K p.head.header p.letters charges n (length strip)) size ∙ room-enough (length old) (length strip) in
      let is : JudgeFinds (bench_of K r' d) (preset_found K p.head.header p.letters charges (length old) (length strip)) (lent work strip) (lent now ring) verdict =
      subst (λ f. JudgeFinds (bench_of K r' d) f (lent work strip) (lent now ring) verdict) same finds in
      record {
        charges = charges;
        sent = sent;
        verdict = verdict;
        verdict_is = is.is;
        told = told;
        crossed = take count now;
        meant = ap (λ n. map K.means (take n now)) (counted K (rule_label_list K.group r' d) (total K.group d) (λ c. total K.group d (next r' c)) (preset_found K p.head.header p.letters charges (length old) (length strip)) verdict count is.is.said many) ∙ is.crossed.0;
        written = written;
        shown = is.shown;
      }
