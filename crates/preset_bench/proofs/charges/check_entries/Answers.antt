use Rattle.std.proofs.Common.{◌≡◌, not, rules, tests, sym, ap, ◌∙◌}
use Rattle.std.proofs.lemmas.Iterator.{YieldsList-from_slice}
use Rattle.std.proofs.lemmas.Iterator.Search.{position_from_yields_List}
use Rattle.std.proofs.lemmas.Iterator.Adapters.{position_from-zero}
use Rattle.std.specs.List.{position_from}
use Rattle.fault.specs.declared.Stop.TheVariants.{BadEntry}
use Rattle.preset.specs.Entries.{fits}
use Rattle.preset.proofs.Turns.{first_refused, each_fits-is}
use Rattle.preset_bench.proofs.charges.check_entries.Goals as goal

pub returns-in-Some : goal.returns-in-Some
returns-in-Some g c =
    let ok = fits g.C.Sent.sending.named in
    let first : c.position.result ≡ position_from (λ x. not (ok x)) 0 c.args.entries.now =
    position_from_yields_List (λ x. not (ok x)) _ _ c.position.result c.position.ensures.ran (YieldsList-from_slice c.args.entries.now cc) (λ x b q k. search (rules, tests)) ∙ position_from-zero (λ x. not (ok x)) c.args.entries.now in
    rw c.at.ensures (ap (first_refused BadEntry) (sym c.in-Some.is ∙ first) ∙ sym (each_fits-is ok BadEntry 0 c.args.entries.now))

pub returns-in-None : goal.returns-in-None
returns-in-None g c =
    let ok = fits g.C.Sent.sending.named in
    let first : c.position.result ≡ position_from (λ x. not (ok x)) 0 c.args.entries.now =
    position_from_yields_List (λ x. not (ok x)) _ _ c.position.result c.position.ensures.ran (YieldsList-from_slice c.args.entries.now cc) (λ x b q k. search (rules, tests)) ∙ position_from-zero (λ x. not (ok x)) c.args.entries.now in
    ap (first_refused BadEntry) (sym c.in-None.is ∙ first) ∙ sym (each_fits-is ok BadEntry 0 c.args.entries.now)
