use Rattle.preset.proofs.PresetLaws.{preset_writes_back}
use Rattle.preset.proofs.reader.read_preset.Goals as goal

pub returns-in_err-scan-clause-writes_back : goal.returns-in_err-scan-clause-writes_back
returns-in_err-scan-clause-writes_back c = preset_writes_back

pub returns-clause-writes_back : goal.returns-clause-writes_back
returns-clause-writes_back c = preset_writes_back
