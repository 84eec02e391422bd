-- What the program's arguments ask. Assumes nothing.
use Rattle.std.specs.Prelude.{ℕ, Bool, true, false, cond, ◌||◌, List, [], ◌∷◌, ◌++◌, map, Some, None, Ok, Err, Option, Result, ◌==◌, codes, decimal, vec_items}
use Rattle.std.specs.Option.{ok_or}
use Rattle.std.specs.Result.{result_map_both}
use Rattle.std.specs.Str.{bytes_eq}
use Rattle.fault.specs.Answers.{and_then}
use Rattle.console.specs.Names.{named}
use Rattle.console.specs.Results.{value_as}
use Rattle.cli.specs.Commands.{count, ring, few_steps, most_steps, word_at, letters}
use Rattle.cli.specs.ShownArguments.{is_utf8, shown_argument}
use Rattle.cli.specs.declared.request.Request.{Request}
use Rattle.cli.specs.declared.request.Request.TheVariants as request
use Rattle.cli.specs.declared.usage.Operand.{Operand}
use Rattle.cli.specs.declared.usage.Operand.TheVariants.{Text, Preset, Ring, Steps}
use Rattle.cli.specs.declared.usage.UsageError.{UsageError}
use Rattle.cli.specs.declared.usage.UsageError.TheVariants as usage
use Rattle.cli.specs.declared.subcommand.Subcommand.{Subcommand}
use Rattle.cli.specs.declared.subcommand.Subcommand.TheVariants as subcommand

-- What is asked, with the names of files, a ring by its letters, and how many steps; judge has its words as they are.
pub data ProgramRequest : Type 0 where
  help : ProgramRequest
  show : List ℕ → ProgramRequest
  encode : List ℕ → List ℕ → ProgramRequest
  judge : List (List ℕ) → ProgramRequest
  crossings : List ℕ → ProgramRequest
  compare : List ℕ → List ℕ → ProgramRequest
  play : List ℕ → ProgramRequest
  run : List ℕ → List ℕ → ℕ → Bool → ProgramRequest

abbrev pub request_meant : Request → ProgramRequest
request_meant request.Help = help
request_meant (request.Show preset) = show preset.now
request_meant (request.Encode text preset) = encode text.now preset.now
request_meant (request.Judge presets) = judge (map vec_items presets.now)
request_meant (request.Crossings preset) = crossings preset.now
request_meant (request.Compare first second) = compare first.now second.now
request_meant (request.Play preset) = play preset.now
request_meant (request.Run preset ring steps meters) = run preset.now (letters ring.text.now) steps meters

-- Why arguments ask nothing, with the word that is wrong, or what is missing.
pub data Complaint : Type 0 where
  no_command : Complaint
  unknown_command : List ℕ → Complaint
  unknown_option : List ℕ → Complaint
  missing : Operand → Complaint
  surplus : List ℕ → Complaint
  not_text : List ℕ → Complaint
  not_ring : List ℕ → Complaint
  not_steps : List ℕ → Complaint
  many_steps : List ℕ → Complaint

abbrev pub complaint : UsageError → Complaint
complaint usage.NoCommand = no_command
complaint (usage.UnknownCommand w) = unknown_command w.now
complaint (usage.UnknownOption w) = unknown_option w.now
complaint (usage.Missing operand) = missing operand
complaint (usage.Surplus w) = surplus w.now
complaint (usage.NotText w) = not_text w.now
complaint (usage.NotRing w) = not_ring w.now
complaint (usage.NotSteps w) = not_steps w.now
complaint (usage.ManySteps w) = many_steps w.now

abbrev pub OrComplaint : Type 0 → Type 0
OrComplaint X = Result X Complaint

-- an answer by what its value stands for
abbrev pub asking : {X Y : Type 0} → (X → Y) → Result X UsageError → OrComplaint Y
asking f r = result_map_both f complaint r

-- a word that begins with a minus sign and has more is an option
abbrev pub is_option : List ℕ → Bool
is_option [] = false
is_option (b ∷ []) = false
is_option (b ∷ (c ∷ bs)) = b == 45

-- a word that names a file
abbrev pub file_name : List ℕ → OrComplaint (List ℕ)
file_name w = cond (is_option w) (Err (unknown_option w)) (cond (is_utf8 w) (Ok w) (Err (not_text w)))

-- the operands of a command, one after another
abbrev pub operand : Operand → Option (List ℕ) → OrComplaint (List ℕ)
operand what None = Err (missing what)
operand what (Some w) = file_name w

-- the word for an operand that is no file
abbrev pub operand_word : Operand → Option (List ℕ) → OrComplaint (List ℕ)
operand_word what None = Err (missing what)
operand_word what (Some w) = cond (is_option w) (Err (unknown_option w)) (Ok w)

abbrev pub ring_operand : Option (List ℕ) → OrComplaint (List ℕ)
ring_operand o = and_then (operand_word Ring o) (λ w. ok_or (ring w) (not_ring w))

abbrev pub steps_operand : Option (List ℕ) → OrComplaint ℕ
steps_operand o =
    and_then (operand_word Steps o) (λ w.
    and_then (ok_or (count w) (not_steps w)) (λ n.
    ok_or (few_steps n) (many_steps w)))

-- nothing may follow
abbrev pub no_more : Option (List ℕ) → OrComplaint (Unit {0})
no_more None = Ok tt
no_more (Some w) = Err (cond (is_option w) (unknown_option w) (surplus w))

-- whether the option of run is there, and nothing more
abbrev pub meters_flag : Option (List ℕ) → Option (List ℕ) → OrComplaint Bool
meters_flag None next = Ok false
meters_flag (Some w) next = cond (bytes_eq w (codes "--meters")) (and_then (no_more next) (λ _. Ok true)) (and_then (no_more (Some w)) (λ _. Ok false))

-- the commands by name
abbrev pub subcommand_text : Subcommand → List ℕ
subcommand_text subcommand.Help = codes "help"
subcommand_text subcommand.Show = codes "show"
subcommand_text subcommand.Encode = codes "encode"
subcommand_text subcommand.Judge = codes "judge"
subcommand_text subcommand.Crossings = codes "crossings"
subcommand_text subcommand.Compare = codes "compare"
subcommand_text subcommand.Play = codes "play"
subcommand_text subcommand.Run = codes "run"

abbrev pub named_subcommand : List ℕ → Option Subcommand
named_subcommand =
    named subcommand_text
    (subcommand.Help ∷ subcommand.Show ∷ subcommand.Encode ∷ subcommand.Judge ∷ subcommand.Crossings ∷ subcommand.Compare ∷ subcommand.Play ∷ subcommand.Run ∷ [])

-- the command that the first word names
abbrev pub first_subcommand : Option (List ℕ) → OrComplaint Subcommand
first_subcommand None = Err no_command
first_subcommand (Some w) =
    ok_or (named_subcommand w) (cond (is_option w) (unknown_option w) (unknown_command w))

-- at least one word
abbrev pub judge_request : List (List ℕ) → OrComplaint ProgramRequest
judge_request [] = Err (missing Preset)
judge_request (w ∷ ws) = Ok (judge (w ∷ ws))

-- a preset, and nothing more
abbrev pub one_file : List (List ℕ) → OrComplaint (List ℕ)
one_file ws = and_then (operand Preset (word_at 0 ws)) (λ preset. and_then (no_more (word_at 1 ws)) (λ _. Ok preset))

-- a file that is an operand, a preset, and nothing more
abbrev pub two_files : Operand → List (List ℕ) → OrComplaint (List ℕ × List ℕ)
two_files what ws =
    and_then (operand what (word_at 0 ws)) (λ first.
    and_then (operand Preset (word_at 1 ws)) (λ second.
    and_then (no_more (word_at 2 ws)) (λ _.
    Ok (first, second))))

abbrev pub run_request : List (List ℕ) → OrComplaint ProgramRequest
run_request ws =
    and_then (operand Preset (word_at 0 ws)) (λ preset.
    and_then (ring_operand (word_at 1 ws)) (λ ring.
    and_then (steps_operand (word_at 2 ws)) (λ steps.
    and_then (meters_flag (word_at 3 ws) (word_at 4 ws)) (λ meters.
    Ok (run preset ring steps meters)))))

-- what a command asks, by the words after its name
abbrev pub asked_of : Subcommand → List (List ℕ) → OrComplaint ProgramRequest
asked_of subcommand.Help ws = and_then (no_more (word_at 0 ws)) (λ _. Ok help)
asked_of subcommand.Show ws = value_as show (one_file ws)
asked_of subcommand.Encode ws = value_as (λ p. encode p.0 p.1) (two_files Text ws)
asked_of subcommand.Judge ws = judge_request ws
asked_of subcommand.Crossings ws = value_as crossings (one_file ws)
asked_of subcommand.Compare ws = value_as (λ p. compare p.0 p.1) (two_files Preset ws)
asked_of subcommand.Play ws = value_as play (one_file ws)
asked_of subcommand.Run ws = run_request ws

-- a word that asks for the page of help, wherever it stands
abbrev pub asks_help : List ℕ → Bool
asks_help w = bytes_eq w (codes "--help") || bytes_eq w (codes "-h")

abbrev pub any_help : List (List ℕ) → Bool
any_help [] = false
any_help (w ∷ ws) = asks_help w || any_help ws

abbrev pub others : List (List ℕ) → List (List ℕ)
others [] = []
others (w ∷ ws) = ws

-- what the words after the program's name ask
abbrev pub requested : List (List ℕ) → OrComplaint ProgramRequest
requested ws =
    cond (any_help ws)
    (Ok help)
    (and_then (first_subcommand (word_at 0 ws)) (λ v. asked_of v (others ws)))

abbrev pub operand_text : Operand → List ℕ
operand_text Text = codes "TEXT"
operand_text Preset = codes "PRESET"
operand_text Ring = codes "RING"
operand_text Steps = codes "STEPS"

-- why arguments ask nothing
abbrev pub usage_sentence : Complaint → List ℕ
usage_sentence no_command = codes "no command is given"
usage_sentence (unknown_command w) = shown_argument w ++ codes " is no command"
usage_sentence (unknown_option w) = shown_argument w ++ codes " is no option here"
usage_sentence (missing what) = operand_text what ++ codes " is missing"
usage_sentence (surplus w) = shown_argument w ++ codes " is one word too many"
usage_sentence (not_text w) = shown_argument w ++ codes " is not UTF-8"
usage_sentence (not_ring w) = shown_argument w ++ codes " is no ring as digits"
usage_sentence (not_steps w) = shown_argument w ++ codes " is no number of steps"
usage_sentence (many_steps w) =
    shown_argument w ++ (codes " steps are too many: at most " ++ (decimal most_steps ++ codes " are run at once"))
