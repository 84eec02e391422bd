use Rattle.std.proofs.Common.{◌≡◌, ◌+◌, ◌-◌, Ok, sym, ◌∙◌}
use Rattle.fault.specs.Checks.{tested}
use Rattle.preset.specs.Writes.{size_tests}
use Rattle.preset.proofs.Heads.{words-few}
use Rattle.preset.proofs.Outcomes.{holds}
use Rattle.preset.proofs.PresetLaws.{sized_from}
use Rattle.preset.proofs.writer.check_sizes.Goals as goal

pub returns : goal.returns
returns c =
    let h = c.args.header in
    let q = sym c.is_within.ensures ∙ holds _ _ c.in_ok-unless.ensures in
    let n = sym c.is_within-2.ensures ∙ holds _ _ c.in_ok-unless-2.ensures in
    let l = holds _ _ c.in_ok-unless-3.ensures in
    let k = sym c.is_within-3.ensures ∙ holds _ _ c.in_ok-unless-4.ensures in
    let few = sym (rw c.word_count.ensures at c.is_some.ensures ∙ words-few h.q (h.n + h.k - 1) q) ∙ holds _ _ c.in_ok-unless-5.ensures in
    let passes : tested (size_tests h) ≡ Ok tt = rw (q, n, l, k, few) in
    record { answer = sym passes; sized = sized_from h passes }
