use Rattle.console.proofs.error.ExpectedDisplay.fmt.Goals as goal

pub returns-in-Kind-clause-writes : goal.returns-in-Kind-clause-writes
returns-in-Kind-clause-writes g c = simp c.in-Kind.is c.write_str.ensures.writes

pub returns-in-Entry-clause-writes : goal.returns-in-Entry-clause-writes
returns-in-Entry-clause-writes g c = simp c.in-Entry.is c.write_str-in-Entry.ensures.writes
