use Rattle.bench.proofs.Searches.{two_list-same, left_passed}
use Rattle.bench.proofs.comparing.compare_words.Goals as goal

pub returns : goal.returns
returns g c =
    let K = g.C.Charge.kind in
    let e = c.in_ok-sizes.ensures in
    let s = c.in_ok-sizes.sizes in
    let same = two_list-same K s (g.D.Density.weights K c.args.first.now) (g.E.Density.weights K c.args.second.now) e.1.0 e.1.1 e.1.2 e.1.3 s.larger in
    left_passed K _ _ _ _ _ _ e.0 same c.examine.ensures.answer c.examine.ensures.crossings c.examine.ensures.ring
