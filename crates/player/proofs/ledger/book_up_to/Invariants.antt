use Rattle.std.proofs.Common.{◌≡◌}
use Rattle.player.specs.Near.{up_to}
use Rattle.player.specs.Promises.{Books}
use Rattle.player.proofs.ledger.book_up_to.Given as goal

abbrev pub invariant-loop-t : goal.invariant-loop-t
invariant-loop-t g l =
    let K = g.C.Charge.kind in
    Books K l.len (up_to K.group l.len l.i l.t (g.S.SiteCharges.charges K l.charges)) l.initial.ledger.sites.now l.ledger.sites.now
    × (l.ledger.sites.ghost_name ≡ l.initial.ledger.sites.ghost_name)
