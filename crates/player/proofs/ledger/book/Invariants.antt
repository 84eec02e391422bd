use Rattle.std.proofs.Common.{◌≡◌}
use Rattle.player.specs.Promises.{Books}
use Rattle.player.proofs.ledger.book.Given as goal

abbrev pub invariant-loop-i : goal.invariant-loop-i
invariant-loop-i g l =
    let K = g.C.Charge.kind in
    Books K l.i (g.S.SiteCharges.charges K l.charges) l.initial.ledger.sites.now l.ledger.sites.now × (l.ledger.sites.ghost_name ≡ l.initial.ledger.sites.ghost_name)
