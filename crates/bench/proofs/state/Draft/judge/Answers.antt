use Rattle.std.proofs.Common.{length, rules}
use Rattle.bench.specs.Benches.{total_before, total_after}
use Rattle.bench.specs.States.{draft_bench}
use Rattle.bench.specs.Verdicts.{lent, broken, judge_found}
use Rattle.bench.proofs.Known.{known_by}
use Rattle.bench.proofs.Rights.{verdict_right}
use Rattle.bench.proofs.Searches.{only_short, sizes-pass}
use Rattle.bench.proofs.Unbounded.{verdict_unbounded}
use Rattle.bench.proofs.Whole.{verdict_whole}
use Rattle.bench.proofs.state.Draft.judge.Goals as goal

pub verdict_of-requires : goal.verdict_of-requires
verdict_of-requires g c =
    let K = g.C.Charge.kind in
    let draft = c.args.self in
    let b = draft_bench draft in
    let x = length c.args.crossings.now in
    let y = length c.args.ring.now in
    known_by b (broken (total_before b) (total_after b)) c.in-Ok.found (judge_found b x y) (verdict_right K x y b (g.R.Rule.lawful draft.parts.rule) (g.D.Density.lawful K draft.parts.density)) c.in-Ok.ensures.answer

pub returns-in-Ok-clause-judged : goal.returns-in-Ok-clause-judged
returns-in-Ok-clause-judged g c =
    let K = g.C.Charge.kind in
    record {
      answer = search rules;
      refused = search rules;
      left = c.in-Ok.ensures.left;
      right = verdict_right K (length c.args.crossings.now) (length c.args.ring.now) (draft_bench c.args.self) (g.R.Rule.lawful c.args.self.parts.rule) (g.D.Density.lawful K c.args.self.parts.density);
      whole = verdict_whole;
      unbounded = verdict_unbounded;
    }

pub returns-in-Err-clause-judged : goal.returns-in-Err-clause-judged
returns-in-Err-clause-judged g c =
    let K = g.C.Charge.kind in
    let draft = c.args.self in
    let b = draft_bench draft in
    let old = lent c.args.crossings.now c.args.ring.now in
    record {
      answer = search rules;
      refused = only_short b (length old.crossings) (length old.ring) _ (sizes-pass draft.sizes b draft.sized) c.in-Err.ensures.answer;
      left = c.in-Err.ensures.left;
      right = verdict_right K (length old.crossings) (length old.ring) b (g.R.Rule.lawful draft.parts.rule) (g.D.Density.lawful K draft.parts.density);
      whole = verdict_whole;
      unbounded = verdict_unbounded;
    }
