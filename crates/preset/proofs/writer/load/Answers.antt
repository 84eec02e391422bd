use Rattle.preset.proofs.PresetLaws.{sound_from}
use Rattle.preset.proofs.writer.load.Goals as goal

pub from_fronts-requires : goal.from_fronts-requires
from_fronts-requires c = sound_from c.args.header c.args.letters.now c.args.entries.now _ c.in_ok-head.ensures.is
