use Rattle.std.proofs.Common.{map, sym, ◌∙◌, arith}
use lib.ListN.{length-map}
use Rattle.automaton.proofs.Lookups.{table_at, entry_read}
use Rattle.automaton.proofs.table_density.TableDensityDensity.charge.Goals as goal

pub returns : goal.returns
returns g c =
    let t = c.args.self.now in
    let K = g.C.Charge.kind in
    let exact = t.exact in
    let counted = t.words.counted in
    entry_read K t.entries.now c.args.code _ c.charge_at.ensures.inside c.charge_at.ensures.past ∙ sym (table_at K.group.zero _ (map K.means t.entries.now) c.args.code (omega (arith, length-map t.entries.now K.means)))
