use Rattle.automaton.proofs.shown.ShownWordDisplay.+fmt.Given as goal

abbrev pub decreases-fmt : goal.decreases-fmt
decreases-fmt g l = l.self.now.m
