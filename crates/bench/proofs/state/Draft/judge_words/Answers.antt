use Rattle.bench.specs.States.{draft_bench}
use Rattle.bench.proofs.Searches.{sizes-pass, rule_list-same, left_passed}
use Rattle.bench.proofs.state.Draft.judge_words.Goals as goal

pub returns : goal.returns
returns g c =
    let K = g.C.Charge.kind in
    let draft = c.args.self.now in
    let e = draft.sized in
    let b = draft_bench draft in
    let same = rule_list-same K draft.sizes b.rule b.density e.0 e.1 e.2 e.3 e.4 in
    left_passed K _ _ _ _ _ _ (sizes-pass draft.sizes b e) same c.examine.ensures.answer c.examine.ensures.crossings c.examine.ensures.ring
