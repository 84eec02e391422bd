use Rattle.std.proofs.Common.{Ok, Err, ap₂, ◌∙◌}
use Rattle.std.specs.Option.{option_map_or}
use Rattle.fault.specs.Refusals.{refused_at}
use Rattle.automaton.proofs.Passes.{fits-position}
use Rattle.automaton.proofs.making.check_each.Goals as goal

pub returns : goal.returns
returns g c =
    c.refuse_first.ensures
    ∙ ap₂ (λ stop found. option_map_or (λ i. Err (refused_at stop i)) found (Ok tt)) c.STOP.ensures c.first_failing.ensures
    ∙ fits-position (g.T.Test.allows c.args.test.now) g.T.Test.STOP c.args.items.now
