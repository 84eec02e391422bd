use Rattle.preset.proofs.PresetLaws.{writable}
use Rattle.preset.proofs.writer.check_preset.Goals as goal

pub returns : goal.returns
returns c =
    writable c.args.header c.args.letters.now c.args.entries.now c.in_ok-head.head _ _ c.letter_count-letter_count.ensures.count c.entry_count-entry_count.ensures.count c.if-letters-letter_count.false c.if-entries-entry_count.false c.in_ok-head.ensures c.in_ok-check_contents.ensures
