use Rattle.std.proofs.Common.{◌≡◌, drop, map, vec_items}
use Rattle.cli.specs.Requests.{any_help}
use Rattle.cli.proofs.request.any_help.Given as goal

abbrev pub invariant-loop-word : goal.invariant-loop-word
invariant-loop-word l = any_help (map vec_items l.words) ≡ any_help (map vec_items (drop l.word-index l.words))
