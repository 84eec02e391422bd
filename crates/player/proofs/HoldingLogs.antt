-- The law of logs, on a bench whose type says that it holds. Assumes nothing.
use Rattle.charge.specs.declared.Charge.{Ghosts as ChargeOf}
use Rattle.automaton.specs.declared.rule.Rule.{Ghosts as RuleOf}
use Rattle.automaton.specs.declared.density.Density.{Ghosts as DensityOf}
use Rattle.bench.specs.declared.state.Holding.{Holding}
use Rattle.bench.specs.States.{holding_bench}
use Rattle.bench.proofs.Known.{keeps_total}
use Rattle.bench.proofs.Searches.{sizes-pass}
use Rattle.player.specs.Logs.{LogsTrueOn}
use Rattle.player.proofs.Logs.{logs_true}

pub holding_logs : {C R D : Type 0} {c : ChargeOf C} {r : RuleOf R} {d : DensityOf D C} (h : Holding C R D c r d) → LogsTrueOn (holding_bench h)
holding_logs {C} {R} {D} {c} {r} {d} h =
    let b = holding_bench h in
    logs_true c.kind b.rule b.density (r.lawful h.parts.rule) (d.lawful c.kind h.parts.density) (sizes-pass h.sizes b h.sized) (keeps_total c.kind b.rule b.density h.holds)
