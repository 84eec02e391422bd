use Rattle.std.proofs.Common.{◌≡◌, map, length, take, drop}
use Rattle.preset_bench.proofs.charges.write_charges.Given as goal

abbrev pub invariant-loop-i : goal.invariant-loop-i
invariant-loop-i g l =
    (map g.C.Sent.sending.entry (take l.i l.strip) ≡ take l.i l.entries)
    × (drop (length l.entries) l.strip ≡ drop (length l.entries) l.initial.strip)
