use Rattle.std.proofs.Common.{◌≡◌, ◌≤◌, true, length, subst, arith}
use Rattle.std.specs.List.{AllByRecursion}
use Rattle.preset.specs.Entries.{fits}
use Rattle.preset_bench.proofs.Filled.{filled, filled-sent}
use Rattle.capi.proofs.Loads.{entries-few}
use Rattle.capi.proofs.entries.fill_entries.Goals as goal

pub unreachable-requires : goal.unreachable-requires
unreachable-requires g c =
    let p = c.args.preset in
    let room : length p.entries.now ≤ length c.args.strip.now = omega (arith, entries-few p, c.requires.room) in
    let allowed : AllByRecursion (λ e. fits g.C.Sent.sending.named e ≡ true) p.entries.now = subst (λ k. AllByRecursion (λ e. fits k e ≡ true) p.entries.now) c.requires.kind p.sound.entries_fit in
    c.in_default.not-Ok tt (filled g.C.Sent.sending.named (length c.args.strip.now) p.entries.now c.fill_charges.result c.fill_charges.ensures.answer room allowed)

pub returns : goal.returns
returns g c =
    let p = c.args.preset in
    let S = g.C.Sent.sending in
    let room : length p.entries.now ≤ length c.args.strip.now = omega (arith, entries-few p, c.requires.room) in
    let allowed : AllByRecursion (λ e. fits S.named e ≡ true) p.entries.now = subst (λ k. AllByRecursion (λ e. fits k e ≡ true) p.entries.now) c.requires.kind p.sound.entries_fit in
    filled-sent S p.entries.now c.args.strip.now c.fill_charges.new.strip room allowed c.fill_charges.ensures.strip
