-- What a line of a script asks of a player. Assumes nothing.
use Rattle.std.specs.Prelude.{◌≡◌, ◌<◌, ◌≤◌, ℕ, zero, suc, ◌-◌, min, Bool, cond, not, ◌&&◌, List, [], ◌∷◌, ◌++◌, map, length, Some, None, Option, Result, Ok, Err, ◌==◌, nat_le, codes, decimal}
use Rattle.std.specs.Borrow.{Bor}
use Rattle.std.specs.List.{AllByRecursion}
use Rattle.std.specs.Option.{ok_or}
use Rattle.std.specs.Str.{all_ascii_digits}
use Rattle.fault.specs.Answers.{and_then}
use Rattle.console.specs.Names.{named}
use Rattle.console.specs.Numbers.{number_end, number}
use Rattle.console.specs.Results.{value_as}
use Rattle.automaton.specs.Shown.{digits}
use Rattle.console.specs.Pages.{spaced}
use Rattle.console.specs.Cutting.{leading, words}
use Rattle.console.specs.declared.cutting.Class.TheVariants.{NotHash}
use Rattle.player.specs.Calls.{PlayerCall}
use Rattle.player.specs.Calls.PlayerCall.{opens as call_opens, touches as call_touches, steps as call_steps, reads as call_reads, closes as call_closes}
use Rattle.cli.specs.declared.command.Command.{Command}
use Rattle.cli.specs.declared.command.Command.TheVariants as command
use Rattle.cli.specs.declared.command.Verb.{Verb}
use Rattle.cli.specs.declared.command.Verb.TheVariants as verb
use Rattle.cli.specs.declared.line.Wanted.{Wanted}
use Rattle.cli.specs.declared.line.Wanted.TheVariants.{Letters, Site, Letter, Length, Steps, FewerSteps, LineEnd, Verb as A_verb}

-- A command with what it is given: a ring by its letters, and numbers.
pub data ScriptCommand : Type 0 where
  opens : List ℕ → ScriptCommand
  step : ScriptCommand
  steps : ℕ → ScriptCommand
  touches : ℕ → ℕ → ScriptCommand
  reads : ℕ → ScriptCommand
  arc : ℕ → ℕ → ScriptCommand
  meters : ScriptCommand
  closes : ScriptCommand

-- steps at once are at most as many as this
abbrev pub most_steps : ℕ
most_steps = 1000000

-- one digit or more
abbrev pub is_number : List ℕ → Bool
is_number w = not (length w == 0) && all_ascii_digits w

-- a number, where each beyond the end of the numbers of a page counts as that end: no site, letter or length comes near it
abbrev pub or_end : Option ℕ → Bool → Option ℕ
or_end (Some n) digits = Some n
or_end None digits = cond digits (Some number_end) None

abbrev pub count : List ℕ → Option ℕ
count w = or_end (number w) (is_number w)

-- the letters that digits write, one each
abbrev pub letters : List ℕ → List ℕ
letters w = map (λ b. b - 48) w

abbrev pub ring : List ℕ → Option (List ℕ)
ring w = cond (all_ascii_digits w) (Some (letters w)) None

abbrev pub command_meant : Command → ScriptCommand
command_meant (command.Open digits) = opens (letters digits.text.now)
command_meant command.Step = step
command_meant (command.Steps n) = steps n
command_meant (command.Touch site letter) = touches site letter
command_meant (command.Read site) = reads site
command_meant (command.Arc site len) = arc site len
command_meant command.Meters = meters
command_meant command.Close = closes

abbrev pub some_command_meant : Option Command → Option ScriptCommand
some_command_meant None = None
some_command_meant (Some c) = Some (command_meant c)

-- what a line reads as, or what it should have where it has something else or nothing
abbrev pub LineReading : Type 0 → Type 0
LineReading X = Result X Wanted

-- a word that may be there
abbrev pub lent_word : Option (Bor (List ℕ)) → Option (List ℕ)
lent_word None = None
lent_word (Some w) = Some w.now

-- the word i of a line, if it has so many
abbrev pub word_at : ℕ → List (List ℕ) → Option (List ℕ)
word_at i [] = None
word_at zero (w ∷ ws) = Some w
word_at (suc i) (w ∷ ws) = word_at i ws

-- nothing may follow
abbrev pub at_end : {X : Type 0} → Option (List ℕ) → X → LineReading X
at_end None x = Ok x
at_end (Some w) x = Err LineEnd

-- a word that is a number
abbrev pub number_word : Wanted → Option (List ℕ) → LineReading ℕ
number_word wanted None = Err wanted
number_word wanted (Some w) = ok_or (count w) wanted

-- steps that are run at once, unless they are too many
abbrev pub few_steps : ℕ → Option ℕ
few_steps n = cond (nat_le n most_steps) (Some n) None

-- what each sort of command makes of the words after its name
abbrev pub open_command : Option (List ℕ) → Option (List ℕ) → LineReading ScriptCommand
open_command None second = Ok (opens [])
open_command (Some w) second = and_then (ok_or (ring w) Letters) (λ r. at_end second (opens r))

abbrev pub step_command : Option (List ℕ) → Option (List ℕ) → LineReading ScriptCommand
step_command None second = Ok step
step_command (Some w) second =
    and_then (ok_or (count w) Steps) (λ n. and_then (ok_or (few_steps n) FewerSteps) (λ m. at_end second (steps m)))

-- a site and a number, and nothing more
abbrev pub site_and : Wanted → Option (List ℕ) → Option (List ℕ) → Option (List ℕ) → LineReading (ℕ × ℕ)
site_and wanted first second third =
    and_then (number_word Site first) (λ site. and_then (number_word wanted second) (λ n. at_end third (site, n)))

abbrev pub read_command : Option (List ℕ) → Option (List ℕ) → LineReading ScriptCommand
read_command first second = and_then (number_word Site first) (λ site. at_end second (reads site))

-- what a command of a sort is, by the words after its name
abbrev pub of_verb : Verb → Option (List ℕ) → Option (List ℕ) → Option (List ℕ) → LineReading ScriptCommand
of_verb verb.Open first second third = open_command first second
of_verb verb.Step first second third = step_command first second
of_verb verb.Touch first second third = value_as (λ p. touches p.0 p.1) (site_and Letter first second third)
of_verb verb.Read first second third = read_command first second
of_verb verb.Arc first second third = value_as (λ p. arc p.0 p.1) (site_and Length first second third)
of_verb verb.Meters first second third = at_end first meters
of_verb verb.Close first second third = at_end first closes

-- the names of the sorts
abbrev pub verb_text : Verb → List ℕ
verb_text verb.Open = codes "open"
verb_text verb.Step = codes "step"
verb_text verb.Touch = codes "touch"
verb_text verb.Read = codes "read"
verb_text verb.Arc = codes "arc"
verb_text verb.Meters = codes "meters"
verb_text verb.Close = codes "close"

abbrev pub named_verb : List ℕ → Option Verb
named_verb =
    named verb_text (verb.Open ∷ verb.Step ∷ verb.Touch ∷ verb.Read ∷ verb.Arc ∷ verb.Meters ∷ verb.Close ∷ [])

-- the command that words are, of which the first is its name
abbrev pub named_command : Option (List ℕ) → Option (List ℕ) → Option (List ℕ) → Option (List ℕ) → LineReading (Option ScriptCommand)
named_command None first second third = Ok None
named_command (Some name) first second third =
    and_then (ok_or (named_verb name) A_verb) (λ v. and_then (of_verb v first second third) (λ c. Ok (Some c)))

abbrev pub command_of : List (List ℕ) → LineReading (Option ScriptCommand)
command_of ws = named_command (word_at 0 ws) (word_at 1 ws) (word_at 2 ws) (word_at 3 ws)

-- the command that a line is, unless it has no words; what follows a # is a comment
abbrev pub line_command : List ℕ → LineReading (Option ScriptCommand)
line_command line = command_of (words (leading NotHash line))

-- the sort of a command, and the words after its name
abbrev pub verb_of : ScriptCommand → Verb
verb_of (opens ring) = verb.Open
verb_of step = verb.Step
verb_of (steps n) = verb.Step
verb_of (touches site letter) = verb.Touch
verb_of (reads site) = verb.Read
verb_of (arc site len) = verb.Arc
verb_of meters = verb.Meters
verb_of closes = verb.Close

abbrev pub arguments : ScriptCommand → List (List ℕ)
arguments (opens []) = []
arguments (opens (a ∷ ring)) = digits (a ∷ ring) ∷ []
arguments step = []
arguments (steps n) = decimal n ∷ []
arguments (touches site letter) = decimal site ∷ (decimal letter ∷ [])
arguments (reads site) = decimal site ∷ []
arguments (arc site len) = decimal site ∷ (decimal len ∷ [])
arguments meters = []
arguments closes = []

-- a command as text: its name, and a space before each word after it
abbrev pub command_text : ScriptCommand → List ℕ
command_text c = verb_text (verb_of c) ++ spaced (λ w. w) (arguments c)

-- The player's call that a command is, if it is one call, for the ring that is opened. A number above every letter is asked as
-- the highest, which no alphabet has.
abbrev pub one_call : ScriptCommand → List ℕ → Option PlayerCall
one_call (opens r) ring = Some (call_opens ring)
one_call step ring = Some call_steps
one_call (steps n) ring = None
one_call (touches site letter) ring = Some (call_touches site (min letter 255))
one_call (reads site) ring = Some (call_reads site)
one_call (arc site len) ring = None
one_call meters ring = None
one_call closes ring = Some call_closes

-- a command that a line can be: its ring has letters that are digits, its steps are few, its other numbers end where those of a
-- line do
abbrev pub Sayable : ScriptCommand → Type 0
Sayable (opens ring) = AllByRecursion (λ a. a < 10) ring
Sayable step = Unit {0}
Sayable (steps n) = n ≤ most_steps
Sayable (touches site letter) = (site ≤ number_end) × (letter ≤ number_end)
Sayable (reads site) = site ≤ number_end
Sayable (arc site len) = (site ≤ number_end) × (len ≤ number_end)
Sayable meters = Unit {0}
Sayable closes = Unit {0}

-- a command that is written as text is read back as that command
abbrev pub ReadsBack : Type 0
ReadsBack = (c : ScriptCommand) → Sayable c → line_command (command_text c) ≡ Ok (Some c)
