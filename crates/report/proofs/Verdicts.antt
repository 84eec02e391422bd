-- The line of what was found, from what a call found and wrote. Assumes nothing.
use Rattle.std.proofs.Common.{◌≡◌, ℕ, List, length, take, drop, Some, None, Ok, Err, Option, Result, sym, refl, ap, ◌∙◌, subst, arith, length-append}
use Rattle.std.proofs.lemmas.List.{take_at, take_all}
use Rattle.std.specs.Option.{option_map}
use Rattle.fault.specs.declared.Fault.{Fault}
use Rattle.fault.specs.Answers.{and_then, at_front}
use Rattle.fault.specs.Refusals.{Refusal}
use Rattle.charge.specs.Groups.{Kind}
use Rattle.criterion.specs.Labelled.{LabelList}
use Rattle.criterion.specs.Answers.{ring_written}
use Rattle.preset.specs.Sending.{Sending}
use Rattle.preset.specs.declared.entry.Entry.{Entry}
use Rattle.bench.specs.declared.state.Break.{Break}
use Rattle.bench.specs.Answers.{found_said}
use Rattle.bench.specs.Verdicts.{Broken, broken}
use Rattle.report.specs.declared.report_line.ReportLine.{ReportLine}
use Rattle.report.specs.declared.report_line.Question.{Question}
use Rattle.report.specs.Texts.{Notation}
use Rattle.preset_bench.specs.Finds.{Finds, sent_break, sent_found}
use Rattle.report.specs.ReportLines.{LineIs}
use Rattle.report.specs.Reports.{VerdictLine}
use Rattle.report.specs.Texts.{finding_text, verdict_text, verdict_good, ring_fits}

-- the length of the ring that an answer tells of
len_of : {A : Type 0} → Result (Option (Broken A)) Refusal → ℕ
len_of (Ok None) = 0
len_of (Ok (Some b)) = b.len
len_of (Err f) = 0

len-found : {A : Type 0} (first second : List ℕ → A) (found : Result (Option (ℕ × List ℕ)) Refusal) → len_of (and_then found (λ f. Ok (option_map (broken first second) f))) ≡ length (ring_written found)
unfolding len_of
len-found first second (Ok None) = refl
len-found first second (Ok (Some f)) = refl
len-found first second (Err f) = refl

module _ {C : Type 0} (K : Kind C) (S : Sending C) (first second : List ℕ → K.group.Carrier) (found : Result (Option (ℕ × List ℕ)) Refusal) where
  len_is : (b : Break C) → found_said K (Ok (Some b)) ≡ and_then found (λ f. Ok (option_map (broken first second) f)) → b.len ≡ length (ring_written found)
  unfolding len_of
  len_is b e = ap len_of e ∙ len-found first second found

  fits_on : (answer : Result (Option (Break C)) Fault) (strip ring : List ℕ) → found_said K answer ≡ and_then found (λ f. Ok (option_map (broken first second) f)) → ring ≡ at_front (ring_written found) strip
      → ring_fits (sent_found S answer) ring
  fits_on (Ok None) strip ring e shown = tt
  fits_on (Err f) strip ring e shown = tt
  fits_on (Ok (Some b)) strip ring e shown =
      let n = len_is b e in
      let m = ap length shown ∙ length-append (ring_written found) (drop (length (ring_written found)) strip) in
      omega arith

  text_on : (question : Question) (subject : List ℕ) (notation : Notation) (answer : Result (Option (Break C)) Fault) (strip ring : List ℕ)
      → found_said K answer ≡ and_then found (λ f. Ok (option_map (broken first second) f)) → ring ≡ at_front (ring_written found) strip
      → verdict_text question subject notation ring (sent_found S answer) ≡ verdict_text question subject notation (ring_written found) (sent_found S answer)
  text_on question subject notation (Ok None) strip ring e shown = refl
  text_on question subject notation (Err f) strip ring e shown = refl
  text_on question subject notation (Ok (Some b)) strip ring e shown =
      let n : length (ring_written found) ≡ b.len = sym (len_is b e) in
      let cut : take b.len ring ≡ ring_written found = ap (take b.len) shown ∙ take_at (ring_written found) (drop (length (ring_written found)) strip) b.len n in
      let all : take b.len (ring_written found) ≡ ring_written found = take_all b.len (ring_written found) (omega arith) in
      ap (λ (xs : List ℕ). finding_text question subject notation xs (sent_break S b)) (cut ∙ sym all)

  module _ (label : LabelList K.group.Carrier) (Right : Result (Option (ℕ × List ℕ)) Refusal → Type 0) (old new : List C) (strip ring : List ℕ) (answer : Result (Option (Break C)) Fault)
      (finds : Finds K label first second Right found old new strip ring answer) (sent : Result (Option (Break Entry)) Fault) (is : sent ≡ sent_found S answer) where
    pub finds_fit : ring_fits sent ring
    finds_fit = subst (λ (r : Result (Option (Break Entry)) Fault). ring_fits r ring) (sym is) (fits_on answer strip ring finds.is.said finds.shown)

    pub told : (question : Question) (subject : List ℕ) (notation to : Notation) → notation ≡ to → (l : ReportLine) → LineIs (verdict_text question subject notation ring sent) (verdict_good sent) l
        → VerdictLine K S question subject to first second Right found l
    told question subject notation to same l h = record {
      answer = answer;
      is = finds.is;
      line = record {
        text_is = h.text_is ∙ ((λ i. verdict_text question subject (same i) ring (is i)) ∙ text_on question subject to answer strip ring finds.is.said finds.shown);
        good_is = h.good_is ∙ ap verdict_good is;
      };
    }
