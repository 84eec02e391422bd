use Rattle.std.proofs.Common.{◌≡◌, drop}
use Rattle.console.specs.Names.{named}
use Rattle.console.proofs.names.find_named.Given as goal

abbrev pub invariant-loop-thing : goal.invariant-loop-thing
invariant-loop-thing g l = named g.T.Named.text l.things l.word ≡ named g.T.Named.text (drop l.thing-index l.things) l.word
