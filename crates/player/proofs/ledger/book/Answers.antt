use Rattle.std.proofs.Common.{length, ap, ◌∙◌, arith}
use Rattle.player.proofs.Books.{book_next}
use Rattle.player.proofs.ledger.book.Goals as goal

pub loop-i-preserved : goal.loop-i-preserved
loop-i-preserved g c =
    let K = g.C.Charge.kind in
    let old = c.new-ledger.result.sites.now in
    let now = c.loop-i in (
      book_next K (g.S.SiteCharges.charges K c.args.charges.now) old now.ledger.sites.now c.add.new.self.sites.now now.i c.charge_at.result
          (omega (arith, c.requires, ap length c.new-ledger.ensures.sites)) c.charge_at.ensures c.add.ensures.sites c.add.ensures.others.1 now.invariant.0,
      c.add.ensures.same ∙ now.invariant.1,
    )
