use Rattle.console.proofs.error.TextErrorDisplay.fmt.Goals as goal

pub returns-in-Memory-clause-writes : goal.returns-in-Memory-clause-writes
returns-in-Memory-clause-writes g c = simp c.in-Memory.is c.write_str.ensures.writes
