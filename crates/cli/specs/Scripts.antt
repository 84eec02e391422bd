-- What a script asks: its lines, and the commands that they are. Assumes nothing.
use Rattle.std.specs.Prelude.{ℕ, ◌+◌, List, [], ◌∷◌, ◌++◌, Some, None, Ok, Option, Result, codes, decimal}
use Rattle.fault.specs.Answers.{and_then}
use Rattle.console.specs.Results.{error_as}
use Rattle.cli.specs.Lines.{lines}
use Rattle.cli.specs.Commands.{ScriptCommand, LineReading, line_command, most_steps}
use Rattle.cli.specs.declared.line.Wanted.{Wanted}
use Rattle.cli.specs.declared.line.Wanted.TheVariants.{Letters, Site, Letter, Length, Steps, FewerSteps, LineEnd, Verb}
use Rattle.cli.specs.declared.script.ScriptError.{ScriptError}
use Rattle.cli.specs.declared.script.ScriptError.TheVariants.{Memory, Line}
use Rattle.cli.specs.declared.text_lines.TextLines.{TextLines}
use Rattle.cli.specs.declared.text_lines.NumberedLine.{NumberedLine}

-- A line with its number.
pub record Numbered : Type 0 where
  pub number : ℕ
  pub text : List ℕ

abbrev pub numbered_of : NumberedLine → Numbered
numbered_of l = record { number = l.number; text = l.text.now }

-- lines numbered from n on
abbrev pub numbered : ℕ → List (List ℕ) → List Numbered
numbered n [] = []
numbered n (l ∷ ls) = record { number = n; text = l } ∷ numbered (n + 1) ls

abbrev pub lines_left : TextLines → List Numbered
lines_left l = numbered (l.passed + 1) (lines l.text.now)

-- a command before others, if there is one
abbrev pub with_command : Option ScriptCommand → List ScriptCommand → List ScriptCommand
with_command None cs = cs
with_command (Some c) cs = c ∷ cs

-- the command of a numbered line, or what the line should have
abbrev pub at_line : Numbered → LineReading (Option ScriptCommand) → Result (Option ScriptCommand) ScriptError
at_line l r = error_as (Line l.number) r

abbrev pub commands : List Numbered → Result (List ScriptCommand) ScriptError
commands [] = Ok []
commands (l ∷ ls) =
    and_then (at_line l (line_command l.text)) (λ c. and_then (commands ls) (λ cs. Ok (with_command c cs)))

-- the commands that a script is, or its first line that is none and what it should have
abbrev pub script : List ℕ → Result (List ScriptCommand) ScriptError
script text = commands (numbered 1 (lines text))

-- what is said of a line that is no command
abbrev pub wanted_text : Wanted → List ℕ
wanted_text Verb = codes "open, step, touch, read, arc, meters or close"
wanted_text Letters = codes "a ring as digits"
wanted_text Site = codes "a site"
wanted_text Letter = codes "a letter"
wanted_text Length = codes "a number of sites"
wanted_text Steps = codes "a number of steps"
wanted_text FewerSteps = codes "at most " ++ (decimal most_steps ++ codes " steps")
wanted_text LineEnd = codes "the end of the line"

abbrev pub script_sentence : ScriptError → List ℕ
script_sentence Memory = codes "There is not enough memory."
script_sentence (Line line wanted) = codes "Line " ++ (decimal line ++ (codes ": expected " ++ (wanted_text wanted ++ codes ".")))
