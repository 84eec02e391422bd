use Rattle.bench.specs.States.{draft_bench}
use Rattle.bench.specs.Verdicts.{lent}
use Rattle.bench.proofs.Searches.{judge-shown, shown-fits}
use Rattle.bench.proofs.state.Draft.judge_on.Goals as goal

pub break_on-requires : goal.break_on-requires
break_on-requires g c =
    let parts = c.args.self.now.parts in
    let searched = c.in_ok-word.ensures in
    let old = lent c.args.crossings.now c.args.ring.now in
    let new = lent c.judge_words.new.crossings c.judge_words.new.ring in
    let s = judge-shown g.C.Charge.kind c.in-Some.field-0 old new (draft_bench c.args.self.now) (g.R.Rule.lawful parts.rule) (g.D.Density.lawful g.C.Charge.kind parts.density) (rw c.in-Some.is at searched) in
    shown-fits s.0
