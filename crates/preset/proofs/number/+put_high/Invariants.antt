use Rattle.preset.proofs.number.+put_high.Given as goal

abbrev pub decreases-put_high : goal.decreases-put_high
decreases-put_high l = l.high
