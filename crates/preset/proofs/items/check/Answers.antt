use Rattle.std.proofs.Common.{◌≡◌, not, rules, tests, sym, ap, ◌∙◌}
use Rattle.std.proofs.lemmas.Iterator.{YieldsList-from_slice}
use Rattle.std.proofs.lemmas.Iterator.Search.{position_from_yields_List}
use Rattle.std.proofs.lemmas.Iterator.Adapters.{position_from-zero}
use Rattle.std.specs.List.{position_from}
use Rattle.preset.proofs.Turns.{first_refused, each_fits-is}
use Rattle.preset.proofs.items.check.Goals as goal

pub returns-in-Some : goal.returns-in-Some
returns-in-Some g c =
    let F = g.T.PresetItem.format in
    let first : c.position.result ≡ position_from (λ x. not (F.fits c.args.limits x)) 0 c.args.items.now =
    position_from_yields_List (λ x. not (F.fits c.args.limits x)) _ _ c.position.result c.position.ensures.ran (YieldsList-from_slice c.args.items.now cc) (λ x b q k. search (rules, tests)) ∙ position_from-zero (λ x. not (F.fits c.args.limits x)) c.args.items.now in
    rw (c.at.ensures, c.stop.ensures) (ap (first_refused F.stop) (sym c.in-Some.is ∙ first) ∙ sym (each_fits-is (F.fits c.args.limits) F.stop 0 c.args.items.now))

pub returns-in-None : goal.returns-in-None
returns-in-None g c =
    let F = g.T.PresetItem.format in
    let first : c.position.result ≡ position_from (λ x. not (F.fits c.args.limits x)) 0 c.args.items.now =
    position_from_yields_List (λ x. not (F.fits c.args.limits x)) _ _ c.position.result c.position.ensures.ran (YieldsList-from_slice c.args.items.now cc) (λ x b q k. search (rules, tests)) ∙ position_from-zero (λ x. not (F.fits c.args.limits x)) c.args.items.now in
    ap (first_refused F.stop) (sym c.in-None.is ∙ first) ∙ sym (each_fits-is (F.fits c.args.limits) F.stop 0 c.args.items.now)
