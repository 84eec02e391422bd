use Rattle.std.proofs.Common.{◌∙◌}
use Rattle.console.specs.Grammar.{outlined}
use Rattle.console.proofs.Encoding.{bytes_are}
use Rattle.console.proofs.encode.encode_outline.Goals as goal

pub returns : goal.returns
returns c =
    let letters = rw c.letter_count.ensures at c.in-Ok.ensures in
    let entries = rw c.entry_count.ensures at c.in-Ok-counted_items.ensures in
    c.write_front.ensures ∙ bytes_are (outlined c.args.page) c.in-Ok.letters.now c.in-Ok-counted_items.entries.now letters entries c.args.out.now c.requires
