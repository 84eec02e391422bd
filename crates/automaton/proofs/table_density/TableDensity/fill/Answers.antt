use Rattle.std.proofs.Common.{ℕ, length, take, sym, ap, ap₂, ◌∙◌, arith, length-take-le}
use Rattle.std.specs.List.{list_all}
use Rattle.fault.specs.declared.Stop.TheVariants.{BadEntry}
use Rattle.automaton.specs.Making.{table_density}
use Rattle.automaton.proofs.Passes.{all_pass, taken-front}
use Rattle.automaton.proofs.Lookups.{table_density-front}
use Rattle.automaton.proofs.table_density.TableDensity.fill.Goals as goal

pub invariant_of-self : goal.invariant_of-self
invariant_of-self g c =
    let w = c.in_ok-words.words in
    let K = g.C.Charge.kind in
    let t = taken-front _ BadEntry _ c.args.entries.now _ (sym c.in_ok-entries.ensures) in
    record {
      exact = omega (arith, ap length t.1, length-take-le w.count c.args.entries.now t.0);
      allowed = ap (list_all K.entry) t.1 ∙ all_pass K.entry BadEntry 0 (take w.count c.args.entries.now) t.2;
    }

pub returns-clause-density : goal.returns-clause-density
returns-clause-density g c =
    let w = c.in_ok-words.words in
    let made = c.in_ok-words.ensures in
    let K = g.C.Charge.kind in
    let front = (taken-front _ BadEntry _ c.args.entries.now _ (sym c.in_ok-entries.ensures)).1 in
    table_density-front K w.q w.m c.args.entries.now _ (front ∙ ap (λ (n : ℕ). take n c.args.entries.now) w.counted)
    ∙ ap₂ (λ (q k : ℕ). table_density K q k c.args.entries.now) made.1 made.2
