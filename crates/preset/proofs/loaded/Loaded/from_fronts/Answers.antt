use Rattle.preset.proofs.loaded.Loaded.from_fronts.Goals as goal

pub invariant_of-result : goal.invariant_of-result
invariant_of-result c = rw (c.letter_count.ensures.count, c.entry_count.ensures.count) (record { sound = c.requires })
