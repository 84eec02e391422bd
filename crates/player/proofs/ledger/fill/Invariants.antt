use Rattle.std.proofs.Common.{◌≡◌}
use Rattle.automaton.specs.Words.{table}
use Rattle.criterion.specs.ChargeStrips.{FrontMeans}
use Rattle.player.proofs.ledger.fill.Given as goal

abbrev pub invariant-loop-i : goal.invariant-loop-i
invariant-loop-i g l =
    let K = g.C.Charge.kind in
    FrontMeans K (table l.i (g.S.SiteCharges.charges K l.charges)) l.initial.ledger.sites.now l.ledger.sites.now × (l.ledger.sites.ghost_name ≡ l.initial.ledger.sites.ghost_name)
