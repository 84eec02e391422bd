-- The commands of lines that are read one after another. Assumes nothing.
use Rattle.std.proofs.Common.{List, ◌++◌, Some, None, Ok, Err, Option, Result}
use Rattle.fault.specs.Answers.{and_then}
use Rattle.cli.specs.Commands.{ScriptCommand}
use Rattle.cli.specs.declared.script.ScriptError.{ScriptError}

-- commands before others that are read
abbrev pub after : List ScriptCommand → Result (List ScriptCommand) ScriptError → Result (List ScriptCommand) ScriptError
after cs s = and_then s (λ ds. Ok (cs ++ ds))

-- the error, if there is one
abbrev pub error_of : {X : Type 0} → Result X ScriptError → Option ScriptError
error_of (Ok x) = None
error_of (Err e) = Some e
