-- What the states of a bench show. Assumes nothing.
use Rattle.std.specs.Prelude.{◌≡◌, ℕ, List, Ok, Err, Result}
use Rattle.charge.specs.declared.Charge.{Ghosts as ChargeOf}
use Rattle.automaton.specs.declared.rule.Rule.{Ghosts as RuleOf}
use Rattle.automaton.specs.declared.density.Density.{Ghosts as DensityOf}
use Rattle.bench.specs.declared.state.BenchParts.{BenchParts}
use Rattle.bench.specs.declared.state.Draft.{Draft}
use Rattle.bench.specs.declared.state.Holding.{Holding}
use Rattle.bench.specs.declared.state.Breaking.{Breaking}
use Rattle.bench.specs.declared.state.Refused.{Refused}
use Rattle.bench.specs.declared.state.Verdict.{Verdict}
use Rattle.bench.specs.declared.holding.SiteCrossings.{SiteCrossings}
use Rattle.bench.specs.declared.next_words.NextWords.{NextWords}
use Rattle.bench.specs.Answers.{verdict_parts}
use Rattle.bench.specs.Benches.{Bench}

-- the codes that stand in the room for next letters
abbrev pub codes_in : NextWords → List ℕ
codes_in room = room.codes

module _ {C R D : Type 0} {c : ChargeOf C} {r : RuleOf R} {d : DensityOf D C} where
  -- the bench that a draft, a holding bench and the crossings on one are of
  abbrev pub draft_bench : Draft C R D c r d → Bench c.kind
  draft_bench b = record { rule = r.meaning b.parts.rule; density = d.weights c.kind b.parts.density }

  abbrev pub holding_bench : Holding C R D c r d → Bench c.kind
  holding_bench b = record { rule = r.meaning b.parts.rule; density = d.weights c.kind b.parts.density }

  abbrev pub sites_bench : SiteCrossings C R D c r d → Bench c.kind
  sites_bench s = holding_bench s.bench.now

  -- the holding bench that the crossings are on
  abbrev pub holding_of : SiteCrossings C R D c r d → Holding C R D c r d
  holding_of s = s.bench.now

  -- the rule and the density themselves
  abbrev pub rule_of : Holding C R D c r d → R
  rule_of b = b.parts.rule

  abbrev pub density_of : Holding C R D c r d → D
  density_of b = b.parts.density

  -- the two together, of a bench in each state and of a verdict, and the bench that a verdict is of
  abbrev pub draft_parts : Draft C R D c r d → BenchParts R D
  draft_parts b = b.parts

  abbrev pub holding_parts : Holding C R D c r d → BenchParts R D
  holding_parts b = b.parts

  abbrev pub breaking_parts : Breaking C R D c r d → BenchParts R D
  breaking_parts b = b.parts

  abbrev pub judged_parts : Verdict C (Holding C R D c r d) (Breaking C R D c r d) → BenchParts R D
  judged_parts v = verdict_parts holding_parts breaking_parts v

  abbrev pub verdict_bench : Verdict C (Holding C R D c r d) (Breaking C R D c r d) → Bench c.kind
  verdict_bench v = let parts = judged_parts v in record { rule = r.meaning parts.rule; density = d.weights c.kind parts.density }

  -- a draft has the rule and the density that were handed in, and a refusal hands them back
  abbrev pub HandsIn : R → D → Result (Draft C R D c r d) (Refused (BenchParts R D)) → Type 0
  HandsIn rule density (Ok b) = draft_parts b ≡ record { rule = rule; density = density }
  HandsIn rule density (Err e) = e.state ≡ record { rule = rule; density = density }

  -- a verdict hands on the rule and the density of a draft, and a refusal the draft as it is
  abbrev pub HandsOn : Draft C R D c r d → Result (Verdict C (Holding C R D c r d) (Breaking C R D c r d)) (Refused (Draft C R D c r d)) → Type 0
  HandsOn draft (Ok verdict) = judged_parts verdict ≡ draft_parts draft
  HandsOn draft (Err e) = e.state ≡ draft
