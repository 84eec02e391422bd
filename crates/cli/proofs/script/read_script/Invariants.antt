use Rattle.std.proofs.Common.{◌≡◌, false, map, vec_items}
use Rattle.cli.specs.Commands.{command_meant}
use Rattle.cli.specs.Scripts.{lines_left, commands, script}
use Rattle.cli.proofs.Collected.{after, error_of}
use Rattle.cli.proofs.script.read_script.Given as goal

-- the error is that of the lines left, and so are the commands, as long as all that were read are kept
abbrev pub invariant-loop-line : goal.invariant-loop-line
invariant-loop-line l =
    let left = commands (lines_left l.line-iterator) in
    (error_of (script l.text) ≡ error_of left) × ((l.full ≡ false) → script l.text ≡ after (map command_meant (vec_items l.commands)) left)
