-- What playing finds and writes, from the verdict and what was answered. Assumes nothing.
use Rattle.std.proofs.Common.{◌≡◌, ℕ, List, Some, None, Ok, Err, Option, Result, sym, refl, ap, ◌∙◌, subst}
use Rattle.std.specs.Option.{option_map}
use Rattle.fault.specs.Answers.{and_then}
use Rattle.fault.specs.Refusals.{Refusal}
use Rattle.charge.specs.Groups.{Kind}
use Rattle.automaton.specs.Meanings.{Local, Weights, Lawful, Weighed, next, total}
use Rattle.preset.specs.Sending.{Sending}
use Rattle.bench.specs.declared.state.Break.{Break}
use Rattle.bench.specs.declared.state.Verdict.{Verdict}
use Rattle.bench.specs.declared.state.Verdict.TheVariants.{Holds, Breaks}
use Rattle.bench.specs.Answers.{verdict_means, found_said, break_of}
use Rattle.bench.specs.Benches.{bench_of}
use Rattle.bench.specs.Laws.{VerdictRight}
use Rattle.bench.specs.Verdicts.{Judgement, Broken, bench_checked, broken}
use Rattle.bench.specs.Verdicts.Judgement.{holds, breaks}
use Rattle.player.specs.Calls.{PlayerStrips}
use Rattle.player.specs.Logs.{OnEveryLine, WithoutGaps, LineTrue}
use Rattle.player.specs.Whole.{LogTrue}
use Rattle.player.proofs.Whole.{verdict_on, log_true}
use Rattle.capi.specs.declared.answers.ScriptAnswer.{ScriptAnswer}
use Rattle.capi.specs.Scripts.{Asking}
use Rattle.capi.specs.Playing.{AnsweredIf, PlayFinds}
use Rattle.capi.proofs.Sessions.{calls_in, session_alike}

-- the break of a verdict
break_in : {A : Type 0} → Result (Judgement A) Refusal → Result (Option (Broken A)) Refusal
break_in (Ok holds) = Ok None
break_in (Ok (breaks b)) = Ok (Some b)
break_in (Err f) = Err f

break-on : {A : Type 0} (now later : List ℕ → A) (found : Result (Option (ℕ × List ℕ)) Refusal) → break_in (verdict_on now later found) ≡ and_then found (λ f. Ok (option_map (broken now later) f))
unfolding break_in
break-on now later (Ok None) = refl
break-on now later (Ok (Some f)) = refl
break-on now later (Err f) = refl

break-means : {C H B : Type 0} (K : Kind C) (v : Verdict C H B) → break_in (Ok (verdict_means K v)) ≡ found_said K (Ok (break_of v))
unfolding break_in
break-means K (Holds h) = refl
break-means K (Breaks b found) = refl

module _ {C : Type 0} (K : Kind C) (S : Sending C) (r : Local) (d : Weights K.group.Carrier) (handed : PlayerStrips K.group.Carrier) (script : List Asking)
    (lawful : Lawful r) (weighed : Weighed d) (passed : bench_checked (bench_of K r d) ≡ Ok tt)
    (found : Result (Option (ℕ × List ℕ)) Refusal) (right : VerdictRight (bench_of K r d) found) (cells : List ℕ) (old new : List ScriptAnswer) where
  abbrev now : List ℕ → K.group.Carrier
  now = total K.group d

  abbrev later : List ℕ → K.group.Carrier
  later c = total K.group d (next r c)

  -- what was found by a verdict
  said-by : (j : Result (Judgement K.group.Carrier) Refusal) → j ≡ verdict_on now later found → break_in j ≡ and_then found (λ f. Ok (option_map (broken now later) f))
  said-by j said = ap break_in said ∙ break-on now later found

  finds-on : {H B : Type 0} (v : Verdict C H B) → Ok (verdict_means K v) ≡ verdict_on now later found → AnsweredIf K S r d handed script (break_of v) cells old new →
      PlayFinds K S r d handed script found cells old new (Ok (break_of v))
  finds-on {H} {B} (Holds h) said answered =
      let log = subst (λ j. LogTrue (bench_of K r d) j (calls_in script) handed) (sym said) (log_true K r d lawful weighed passed found (calls_in script) handed right) in
      let true_log = subst (λ l. WithoutGaps K r d l × OnEveryLine (LineTrue K r d) l) (sym (session_alike K r d handed script).0) log in
      record {
        verdict_is = record { said = sym (break-means {H = H} {B = B} K (Holds h)) ∙ said-by _ said; right = right };
        performs = (answered, true_log.0, true_log.1);
      }
  finds-on {H} {B} (Breaks b found') said answered = record {
    verdict_is = record { said = sym (break-means {H = H} {B = B} K (Breaks b found')) ∙ said-by _ said; right = right };
    performs = answered;
  }

  pub play-finds : {H B : Type 0} (v : Verdict C H B) (o : Option (Break C)) → Ok (verdict_means K v) ≡ verdict_on now later found → o ≡ break_of v → AnsweredIf K S r d handed script o cells old new →
      PlayFinds K S r d handed script found cells old new (Ok o)
  play-finds v o said is answered =
      subst (λ x. PlayFinds K S r d handed script found cells old new (Ok x)) (sym is)
      (finds-on v said (subst (λ x. AnsweredIf K S r d handed script x cells old new) is answered))
