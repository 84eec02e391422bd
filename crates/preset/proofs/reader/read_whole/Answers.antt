use Rattle.preset.proofs.PresetLaws.{one_spelling, preset_sizes}
use Rattle.preset.proofs.reader.read_whole.Goals as goal

pub returns-in_err-head-clause-one_spelling : goal.returns-in_err-head-clause-one_spelling
returns-in_err-head-clause-one_spelling c = one_spelling

pub returns-in_err-head-clause-sizes : goal.returns-in_err-head-clause-sizes
returns-in_err-head-clause-sizes c = preset_sizes

pub returns-clause-one_spelling : goal.returns-clause-one_spelling
returns-clause-one_spelling c = one_spelling

pub returns-clause-sizes : goal.returns-clause-sizes
returns-clause-sizes c = preset_sizes
