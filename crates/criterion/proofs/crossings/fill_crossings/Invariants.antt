use Rattle.std.proofs.Common.{◌≡◌, ◌-◌, ◌≤◌, map, take}
use Rattle.automaton.specs.Words.{word, table}
use Rattle.criterion.specs.Search.{J}
use Rattle.criterion.proofs.crossings.fill_crossings.Given as goal

abbrev pub invariant-loop-v : goal.invariant-loop-v
invariant-loop-v g l =
    let K = g.C.Charge.kind in
    let d = g.L.Label.labels K l.label in
    (1 ≤ l.v) × (map K.means (take l.v l.strip) ≡ table l.v (λ v. J K 0 d (word d.q (d.m - 1) v)))
