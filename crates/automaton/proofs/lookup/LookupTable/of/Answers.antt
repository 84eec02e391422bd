use Rattle.std.proofs.Common.{sym}
use Rattle.fault.specs.declared.Stop.TheVariants.{BadLetter}
use Rattle.automaton.proofs.Passes.{taken-letters, taken-front}
use Rattle.automaton.proofs.Lookups.{lookup_rule-front}
use Rattle.automaton.proofs.lookup.LookupTable.of.Goals as goal

pub invariant_of-result : goal.invariant_of-result
invariant_of-result c =
    record { reach = c.requires; below = (taken-letters c.args.words.q _ c.args.letters.now _ (sym c.in_ok-letters.ensures)).1 }

pub returns-clause-rule : goal.returns-clause-rule
returns-clause-rule c =
    let w = c.args.words in
    let front = (taken-front _ BadLetter _ c.args.letters.now _ (sym c.in_ok-letters.ensures)).1 in
    λ place within. lookup_rule-front place w.q w.m c.args.l c.args.places c.args.letters.now _ within front
