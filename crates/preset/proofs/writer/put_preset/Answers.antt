use Rattle.preset.specs.Entries.{entry_bytes}
use Rattle.preset.specs.Items.{sent}
use Rattle.preset.specs.Numbers.{spell}
use Rattle.preset.specs.Writes.{header_numbers}
use Rattle.preset.proofs.Fronts.{third_room, third_put}
use Rattle.preset.proofs.writer.put_preset.Goals as goal

pub put_all-requires-2 : goal.put_all-requires-2
put_all-requires-2 c =
    let p = c.args.preset.now in
    let numbers = sent spell (header_numbers p.header) in
    let one = rw c.header_numbers-numbers.ensures at c.put_all-header.ensures in
    rw c.limits-limits.ensures (third_room c.args.out.now numbers (sent spell p.letters.now) (sent (entry_bytes p.kind) p.entries.now) c.put_all-header.new.out c.put_all.new.out c.put_all-header.result c.put_all.result one.count c.put_all.ensures.count one.strip c.requires c.put_all.ensures.strip)

pub returns-clause-strip : goal.returns-clause-strip
returns-clause-strip c =
    let p = c.args.preset.now in
    let numbers = sent spell (header_numbers p.header) in
    let one = rw c.header_numbers-numbers.ensures at c.put_all-header.ensures in
    let last = rw c.limits-limits.ensures at c.put_all-2.ensures in
    third_put c.args.out.now numbers (sent spell p.letters.now) (sent (entry_bytes p.kind) p.entries.now) c.put_all-header.new.out c.put_all.new.out c.put_all-header.result c.put_all.result one.count c.put_all.ensures.count one.strip c.requires c.put_all.ensures.strip c.put_all-2.new.out last.strip
