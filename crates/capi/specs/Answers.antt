-- What the calls answer, as the structs that C gets. Assumes nothing.
use Rattle.std.specs.Prelude.{ℕ, pos, true, false, Some, None, Ok, Err, Option, Result}
use Rattle.fault.specs.Refusals.{Refusal, refusal}
use Rattle.preset.specs.declared.entry.Entry.{Entry}
use Rattle.preset.specs.declared.header.Header.{Header}
use Rattle.preset.specs.Sending.{Sending}
use Rattle.bench.specs.declared.state.Break.{Break}
use Rattle.player.specs.declared.call.Answer.{Answer}
use Rattle.player.specs.declared.call.Answer.TheVariants.{Done, Reading, Refused}
use Rattle.capi.specs.declared.answers.ReadAnswer.{ReadAnswer}
use Rattle.capi.specs.declared.answers.JudgeAnswer.{JudgeAnswer}
use Rattle.capi.specs.declared.answers.ScriptAnswer.{ScriptAnswer}

-- numbers that an answer does not have are 0
abbrev pub no_entry : Entry
no_entry = record { signed = pos 0; plain = 0 }

abbrev pub no_header : Header
no_header = record { kind = 0; q = 0; n = 0; l = 0; k = 0 }

abbrev pub read_answer : Result Header Refusal → ReadAnswer
read_answer (Ok h) = record { code = 0; place = 0; header = h }
read_answer (Err f) = record { code = f.0; place = f.1; header = no_header }

-- a verdict without a break, or a refusal
abbrev pub unbroken : ℕ → ℕ → JudgeAnswer
unbroken code place = record { code = code; breaks = false; place = place; word = 0; len = 0; before = no_entry; after = no_entry }

abbrev pub broken : Break Entry → JudgeAnswer
broken b = record { code = 0; breaks = true; place = 0; word = b.word; len = b.len; before = b.first; after = b.second }

-- "holds" is an answer without a break and without a refusal
abbrev pub judge_answer : Result (Option (Break Entry)) Refusal → JudgeAnswer
judge_answer (Ok None) = unbroken 0 0
judge_answer (Ok (Some b)) = broken b
judge_answer (Err f) = unbroken f.0 f.1

-- an answer without a reading
abbrev pub no_reading : ℕ → ℕ → ℕ → ScriptAnswer
no_reading answer code place =
    record { answer = answer; code = code; place = place; opening = no_entry; crossed = no_entry; touched = no_entry; now = no_entry }

-- 0 is no answer, 1 that the call is done, 2 a reading, and 3 a refusal
abbrev pub script_answer : {C : Type 0} → Sending C → Option (Answer C) → ScriptAnswer
script_answer S None = no_reading 0 0 0
script_answer S (Some Done) = no_reading 1 0 0
script_answer S (Some (Reading m)) =
    record { answer = 2; code = 0; place = 0; opening = S.entry m.opening; crossed = S.entry m.crossed; touched = S.entry m.touched; now = S.entry m.now }
script_answer S (Some (Refused f)) = no_reading 3 (refusal f).0 (refusal f).1
