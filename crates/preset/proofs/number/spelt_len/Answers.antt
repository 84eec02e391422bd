use Rattle.std.proofs.Common.{◌≡◌, max, rules}
use Rattle.preset.proofs.Spelling.{length-spell_bits}
use Rattle.preset.proofs.number.spelt_len.Goals as goal

pub returns-clause-count : goal.returns-clause-count
returns-clause-count c =
    let most : c.max.result ≡ max c.args.value 1 = search rules in
    length-spell_bits c.args.value c.max.result c.ilog2.result most c.ilog2.ensures.power_le c.ilog2.ensures.next_power_gt
