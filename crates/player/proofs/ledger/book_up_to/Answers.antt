use Rattle.std.proofs.Common.{◌≤◌, length, refl, ap, ◌∙◌, arith}
use Rattle.player.proofs.Books.{book_none, book_more}
use Rattle.player.proofs.ledger.book_up_to.Goals as goal

pub loop-t-init : goal.loop-t-init
loop-t-init g c =
    let a = c.args in
    let size = ap length c.new-ledger.ensures.sites in
    (book_none g.C.Charge.kind a.len a.i (g.S.SiteCharges.charges g.C.Charge.kind a.charges.now) c.new-ledger.result.sites.now (omega (arith, c.requires.0, size)), refl)

pub loop-t-preserved : goal.loop-t-preserved
loop-t-preserved g c =
    let K = g.C.Charge.kind in
    let a = c.args in
    let old = c.new-ledger.result.sites.now in
    let room : a.len ≤ length old = omega (arith, c.requires.0, ap length c.new-ledger.ensures.sites) in
    let site = c.site_before-site in
    let now = c.loop-t in (
      book_more K a.len a.i (g.S.SiteCharges.charges K a.charges.now) old room now.ledger.sites.now c.add.new.self.sites.now site.result now.t c.charge_at.result
          c.requires.1 site.ensures.within site.ensures.back c.charge_at.ensures c.add.ensures.sites c.add.ensures.others.1 now.invariant.0,
      c.add.ensures.same ∙ now.invariant.1,
    )
