use Rattle.std.proofs.Common.{◌≡◌, map, length, take, drop}
use Rattle.capi.proofs.judge_charges.write_entries.Given as goal

abbrev pub invariant-loop-i : goal.invariant-loop-i
invariant-loop-i g l =
    (take l.i l.strip ≡ take l.i (map g.C.Sent.sending.entry l.charges))
    × (drop (length l.charges) l.strip ≡ drop (length l.charges) l.initial.strip)
