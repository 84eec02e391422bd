use Rattle.std.proofs.Common.{◌≡◌, ◌+◌, ◌*◌}
use Rattle.criterion.specs.Search.{failing}
use Rattle.criterion.proofs.Failing.{failing_from}
use Rattle.criterion.proofs.search.first_failing.Given as goal

-- the search from here on is the whole search
abbrev pub invariant-loop-last : goal.invariant-loop-last
invariant-loop-last g l =
    let K = g.C.Charge.kind in
    let d = g.L.Label.labels K l.label in
    failing K 0 d ≡ failing_from K d (l.head * d.q + l.last)

abbrev pub invariant-loop-head : goal.invariant-loop-head
invariant-loop-head g l =
    let K = g.C.Charge.kind in
    let d = g.L.Label.labels K l.label in
    failing K 0 d ≡ failing_from K d (l.head * d.q)
