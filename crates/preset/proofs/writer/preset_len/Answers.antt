use Rattle.std.proofs.Common.{ℕ, List, length, ap, arith}
use Rattle.charge.specs.declared.kind.ChargeKind.{ChargeKind}
use Rattle.preset.specs.Entries.{entry_bytes}
use Rattle.preset.specs.Items.{sent}
use Rattle.preset.specs.Numbers.{spell}
use Rattle.preset.specs.Writes.{header_numbers}
use Rattle.preset.proofs.Heads.{letters_few, entries_few}
use Rattle.preset.proofs.Fronts.{length_three}
use Rattle.preset.proofs.writer.preset_len.Goals as goal

pub total_len-requires-2 : goal.total_len-requires-2
total_len-requires-2 c = let s = c.args.preset.now.sound in omega (arith, s.letter_count, letters_few c.args.preset.now.header s.sized)

pub total_len-requires-3 : goal.total_len-requires-3
total_len-requires-3 c = let s = c.args.preset.now.sound in omega (arith, s.entry_count, entries_few c.args.preset.now.header s.sized)

pub returns : goal.returns
returns c =
    let p = c.args.preset.now in
    omega (
      arith,
      length_three (sent spell (header_numbers p.header)) (sent spell p.letters.now) (sent (entry_bytes p.kind) p.entries.now),
      ap (λ (xs : List ℕ). length (sent spell xs)) c.header_numbers-numbers.ensures,
      ap (λ (k : ChargeKind). length (sent (entry_bytes k) p.entries.now)) c.limits-limits.ensures,
    )
