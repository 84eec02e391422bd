use Rattle.std.proofs.Common.{ℕ, length, Option, ap, arith, length-append}
use Rattle.preset.specs.Entries.{part_bytes, signed_number, signed_part, plain_number, plain_end}
use Rattle.preset.proofs.entry.EntryEncode.len.Goals as goal

pub returns : goal.returns
returns c =
    let size = λ (p : Option ℕ). length (part_bytes p) in
    let s = signed_number (signed_part c.args.limits.kind) c.args.self.signed in
    let p = plain_number (plain_end c.args.limits.kind) c.args.self.plain in
    record { count = omega (arith, length-append (part_bytes s) (part_bytes p), ap size c.signed_number.ensures, ap size c.plain_number.ensures); bound = omega arith }
