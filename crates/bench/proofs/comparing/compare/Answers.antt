use Rattle.std.proofs.Common.{◌≡◌, length, Ok, Result, sym, ap, ◌∙◌, rules}
use Rattle.std.specs.Option.{option_map}
use Rattle.fault.specs.declared.Fault.{Fault}
use Rattle.fault.specs.Answers.{and_then}
use Rattle.charge.specs.Groups.{Kind}
use Rattle.automaton.specs.Meanings.{Weights, Weighed, total}
use Rattle.bench.specs.declared.state.Comparison.{Comparison}
use Rattle.bench.specs.Answers.{compare_said}
use Rattle.bench.specs.Promises.{Compares}
use Rattle.bench.specs.Verdicts.{Lent, lent, broken, differ, agreement_of, comparing, CompareLeaves}
use Rattle.bench.proofs.Rights.{comparison_right}
use Rattle.bench.proofs.Searches.{compare-shown, shown-fits}
use Rattle.bench.proofs.Unbounded.{comparison_unbounded}
use Rattle.bench.proofs.Whole.{comparison_whole}
use Rattle.bench.proofs.comparing.compare.Goals as goal

-- what is answered and left is all that has to be shown of a call
compares : {C : Type 0} (K : Kind C) (d e : Weights K.group.Carrier) → Weighed d → Weighed e → (old : Lent C) (result : Result (Comparison C) Fault) (new : Lent C) →
    compare_said K result ≡ comparing K d e (length old.crossings) (length old.ring) → CompareLeaves K d e old new → Compares K d e old result new
compares K d e weighed weighed' old result new answer left = record {
  answer = answer;
  left = left;
  right = comparison_right K (length old.crossings) (length old.ring) d e weighed weighed';
  whole = comparison_whole;
  unbounded = comparison_unbounded;
}

pub differ_on-requires-clause-shown : goal.differ_on-requires-clause-shown
differ_on-requires-clause-shown g c =
    let K = g.C.Charge.kind in
    let searched = c.in_ok-word.ensures in
    let s = compare-shown K c.in-Some.field-0 _ (lent c.compare_words.new.crossings c.compare_words.new.ring) _ _ (g.D.Density.lawful K c.args.first.now) (g.E.Density.lawful K c.args.second.now) (rw c.in-Some.is at searched) in
    shown-fits s.0

pub differ_on-requires-clause-alike : goal.differ_on-requires-clause-alike
differ_on-requires-clause-alike g c =
    let K = g.C.Charge.kind in
    let searched = c.in_ok-word.ensures in
    let s = compare-shown K c.in-Some.field-0 _ (lent c.compare_words.new.crossings c.compare_words.new.ring) _ _ (g.D.Density.lawful K c.args.first.now) (g.E.Density.lawful K c.args.second.now) (rw c.in-Some.is at searched) in
    s.1

pub returns-in_err-word : goal.returns-in_err-word
returns-in_err-word g c =
    let K = g.C.Charge.kind in
    compares K _ _ (g.D.Density.lawful K c.args.first.now) (g.E.Density.lawful K c.args.second.now) _ _ _ (search rules) c.in_err-word.ensures.left

pub returns-in_default : goal.returns-in_default
returns-in_default g c =
    let K = g.C.Charge.kind in
    compares K _ _ (g.D.Density.lawful K c.args.first.now) (g.E.Density.lawful K c.args.second.now) _ _ _ (search rules) c.in_ok-word.ensures.left

pub returns : goal.returns
returns g c =
    let K = g.C.Charge.kind in
    let d = g.D.Density.weights K c.args.first.now in
    let e = g.E.Density.weights K c.args.second.now in
    let searched = c.in_ok-word.ensures in
    let s = compare-shown K c.in-Some.field-0 _ (lent c.compare_words.new.crossings c.compare_words.new.ring) d e (g.D.Density.lawful K c.args.first.now) (g.E.Density.lawful K c.args.second.now) (rw c.in-Some.is at searched) in
    let differs = broken (total K.group d) (total K.group e) in
    compares K d e (g.D.Density.lawful K c.args.first.now) (g.E.Density.lawful K c.args.second.now) _ _ _
    (c.differ_on.ensures
    ∙ ap (λ ring. Ok (differ (differs (c.in-Some.field-0.word, ring)))) s.0.part
    ∙ sym (ap (λ f. and_then f (λ o. Ok (agreement_of (option_map differs o)))) s.0.is))
    searched.left
