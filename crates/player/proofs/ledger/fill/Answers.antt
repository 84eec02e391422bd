use Rattle.std.proofs.Common.{◌+◌, length, map, drop, set, ap, ◌∙◌, arith}
use Rattle.std.proofs.lemmas.List.{map-set, drop-set-lt}
use Rattle.player.proofs.Books.{front_more}
use Rattle.player.proofs.ledger.fill.Goals as goal

pub loop-i-preserved : goal.loop-i-preserved
loop-i-preserved g c =
    let K = g.C.Charge.kind in
    let now = c.loop-i in
    let x = c.charge_at.result in
    let mid = now.ledger.sites.now in (
      front_more K (g.S.SiteCharges.charges K c.args.charges.now) c.new-ledger.result.sites.now mid c.put.new.self.sites.now now.i
          (omega (arith, c.requires, ap length c.new-ledger.ensures.sites))
          (ap (map K.means) c.put.ensures.sites ∙ map-set K.means mid now.i x ∙ ap (set (map K.means mid) now.i) c.charge_at.ensures)
          (ap (drop (now.i + 1)) c.put.ensures.sites ∙ drop-set-lt (now.i + 1) mid now.i x (omega arith))
          now.invariant.0,
      c.put.ensures.same ∙ now.invariant.1,
    )
