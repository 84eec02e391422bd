use Rattle.std.proofs.Common.{◌≤◌, length, sym, ap, ◌∙◌, ap₂, arith, ltb-false}
use Rattle.std.proofs.lemmas.Slice.{first_rest}
use Rattle.console.specs.Forms.{paired, halves}
use Rattle.console.proofs.item.read_both.Goals as goal

pub returns-in-len1-up : goal.returns-in-len1-up
returns-in-len1-up c =
    let parts = c.cut-parts.result in
    let some : 1 ≤ length parts.past.now = omega (arith, ltb-false) in
    c.pair.ensures ∙ (ap₂ paired c.read_signed.ensures c.read_number.ensures.value
    ∙ (sym (ap (halves parts.leading.now) (first_rest parts.past.now 0 some))
    ∙ ap₂ halves c.cut-parts.ensures.leading c.cut-parts.ensures.past))
