-- What playing a script on a preset answers and writes. Assumes nothing.
use Rattle.std.specs.Prelude.{◌≡◌, ℕ, List, map, length, Some, None, Ok, Err, Option, Result}
use Rattle.std.specs.Option.{option_map}
use Rattle.fault.specs.declared.Fault.{Fault}
use Rattle.fault.specs.Answers.{at_front}
use Rattle.fault.specs.Limits.{most_words}
use Rattle.fault.specs.Refusals.{Refusal}
use Rattle.charge.specs.Groups.{Kind}
use Rattle.charge.specs.declared.kind.ChargeKind.{ChargeKind}
use Rattle.automaton.specs.Meanings.{Local, Weights}
use Rattle.criterion.specs.Search.{most_shown}
use Rattle.preset.specs.Presets.{Preset}
use Rattle.preset.specs.Sending.{Sending, delivered}
use Rattle.bench.specs.declared.state.Break.{Break}
use Rattle.player.specs.declared.call.Answer.{Answer}
use Rattle.player.specs.Answers.{answer_meant}
use Rattle.player.specs.Calls.{PlayerStrips}
use Rattle.player.specs.Logs.{OnEveryLine, WithoutGaps, LineTrue}
use Rattle.player.specs.Whole.{with_answers}
use Rattle.preset_bench.specs.Finds.{preset_rule, preset_density, preset_found}
use Rattle.capi.specs.declared.answers.JudgeAnswer.{JudgeAnswer}
use Rattle.capi.specs.declared.answers.ScriptAnswer.{ScriptAnswer}
use Rattle.capi.specs.Answers.{judge_answer, script_answer}
use Rattle.capi.specs.Judging.{VerdictIs, told_of}
use Rattle.capi.specs.Scripts.{Asking, zeroed, session}

module _ {C : Type 0} (K : Kind C) (S : Sending C) (r : Local) (d : Weights K.group.Carrier) (handed : PlayerStrips K.group.Carrier) (script : List Asking) where
  -- some answers that are the session's stand at the front of the strip of answers, and the cells are the session's
  pub record Answered (cells : List ℕ) (old new : List ScriptAnswer) : Type 0 where
    pub given : List (Option (Answer C))
    pub said : map (option_map (answer_meant K)) given ≡ (session K r d handed script).said
    pub answers : new ≡ at_front (map (script_answer S) given) old
    pub cells_left : cells ≡ (session K r d handed script).strips.cells

  -- unless the bench breaks, and then nothing is written
  abbrev pub AnsweredIf : Option (Break C) → List ℕ → List ScriptAnswer → List ScriptAnswer → Type 0
  AnsweredIf None = Answered
  AnsweredIf (Some b) = λ cells old new. (cells ≡ handed.cells) × (new ≡ old)

  -- Under "holds" the answers are the session's, and its log has no gaps and is true on every line; otherwise nothing is
  -- written.
  abbrev pub PerformsIf : Result (Option (Break C)) Fault → List ℕ → List ScriptAnswer → List ScriptAnswer → Type 0
  PerformsIf (Ok None) = λ cells old new.
      let log = (session K r d handed script).log in Answered cells old new × WithoutGaps K r d log × OnEveryLine (LineTrue K r d) log
  PerformsIf (Ok (Some b)) = λ cells old new. (cells ≡ handed.cells) × (new ≡ old)
  PerformsIf (Err f) = λ cells old new. (cells ≡ handed.cells) × (new ≡ old)

  -- a verdict that means what was found, and what was performed by it
  pub record PlayFinds (found : Result (Option (ℕ × List ℕ)) Refusal) (cells : List ℕ) (old new : List ScriptAnswer) (verdict : Result (Option (Break C)) Fault) : Type 0 where
    pub verdict_is : VerdictIs K r d found verdict
    pub performs : PerformsIf verdict cells old new

-- A preset of one kind, judged and played on: some charges that are sent as its entries are judged, once there is room for
-- the answers.
pub record PlayedOn {C : Type 0} (K : Kind C) (S : Sending C) (p : Preset) (script : List Asking) (handed : PlayerStrips K.group.Carrier) (left : List ℕ) (old new : List ScriptAnswer) (answer : JudgeAnswer) : Type 0 where
  pub charges : List C
  pub sent : map S.entry charges ≡ p.entries
  pub verdict : Result (Option (Break C)) Fault
  pub finds : PlayFinds K S (preset_rule p.head.header p.letters) (preset_density K p.head.header charges) handed script (with_answers (length script) (length old) (preset_found K p.head.header p.letters charges most_words most_shown)) left old new verdict
  pub told : answer ≡ told_of S verdict

-- of any kind, with strips of zeros for all but the cells
abbrev pub PlayedAs : ChargeKind → Preset → List Asking → List ℕ → List ℕ → List ScriptAnswer → List ScriptAnswer → JudgeAnswer → Type 0
PlayedAs kind p script cells = let d = delivered kind in PlayedOn d.meaning d.sending p script (zeroed d.meaning cells)

-- of some bytes, by what reading them as a preset answers; a refusal writes nothing
abbrev pub PlayTells : Result Preset Refusal → List Asking → List ℕ → List ℕ → List ScriptAnswer → List ScriptAnswer → JudgeAnswer → Type 0
PlayTells (Ok p) = PlayedAs p.head.kind p
PlayTells (Err f) = λ script cells left old new answer. (answer ≡ judge_answer (Err f)) × (left ≡ cells) × (new ≡ old)
