use Rattle.std.proofs.Common.{◌≤◌, length, arith}
use Rattle.preset_bench.proofs.Filled.{filled}
use Rattle.report.proofs.charges.charges_of.Goals as goal

pub unreachable-requires : goal.unreachable-requires
unreachable-requires g c =
    let room : length c.args.entries.now ≤ length c.deref_mut.result.now = omega (arith, c.deref_mut.ensures.len, c.in_ok-charges.ensures.len) in
    c.in_default.not-Ok tt (filled g.C.Sent.sending.named (length c.deref_mut.result.now) c.args.entries.now c.fill_charges.result c.fill_charges.ensures.answer room c.requires)
