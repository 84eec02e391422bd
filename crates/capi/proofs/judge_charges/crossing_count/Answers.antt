use Rattle.std.proofs.Common.{◌≡◌, ◌+◌, ◌-◌, arith}
use Rattle.preset_bench.proofs.Counts.{crossings_few}
use Rattle.capi.proofs.judge_charges.crossing_count.Goals as goal

pub pow-requires : goal.pow-requires
pow-requires g c =
    let h = c.args.header in
    let same : h.n + h.k - 2 ≡ h.n + h.k - 1 - 1 = omega arith in
    let few = crossings_few h c.requires in
    rw same (omega (arith, few))
