use Rattle.std.proofs.Common.{◌≡◌, ◌++◌, length, drop}
use Rattle.automaton.specs.Words.{word}
use Rattle.criterion.proofs.shown.write_word.Given as goal

-- the letters still to write, and then what is written
abbrev pub invariant-loop-i : goal.invariant-loop-i
invariant-loop-i l = word l.q l.i l.rest ++ drop l.i l.letters ≡ word l.q (length l.initial.letters) l.code
