use Rattle.std.proofs.Common.{◌≡◌, ◌≤◌, ◌++◌, List, ℕ, length, drop, take, replicate, sym, ap, ap₂, ◌∙◌, arith, length-take-le}
use Rattle.fault.specs.Answers.{at_front}
use Rattle.automaton.specs.Words.{word}
use Rattle.automaton.proofs.Codes.{length-word}
use Rattle.criterion.proofs.RingShown.{cut_fits, shown-taken, copied}
use Rattle.criterion.proofs.shown.write_shown.Goals as goal

-- the word that is written into zeros
written : (q m code : ℕ) (letters : List ℕ) → m ≤ 23 → letters ≡ word q (length (take m (replicate {A = ℕ} 23 0))) code →
    letters ++ drop m (replicate {A = ℕ} 23 0) ≡ at_front (word q m code) (replicate {A = ℕ} 23 0)
written q m code letters h is =
    ap₂ (λ w n. w ++ drop n (replicate {A = ℕ} 23 0))
    (is ∙ ap (λ n. word q n code) (length-take-le m (replicate {A = ℕ} 23 0) h))
    (sym (length-word q m code))

pub sums_to_zero-requires : goal.sums_to_zero-requires
sums_to_zero-requires g c =
    let K = g.C.Charge.kind in
    let label = c.args.label.now in
    let labelled = g.L.Label.lawful K label in
    let fits = cut_fits K (g.L.Label.labels K label) labelled c.args.code c.q.result c.m-m.result _ c.q.ensures c.m-m.ensures
    (written c.q.result c.m-m.result c.args.code _ (omega (arith, labelled.sizes.3, c.m-m.ensures)) c.write_word.ensures) in
    record { length = fits.0; letters = fits.1 }

pub returns : goal.returns
returns g c =
    let K = g.C.Charge.kind in
    let label = c.args.label.now in
    let labelled = g.L.Label.lawful K label in
    let is = c.ring_of.ensures ∙ shown-taken K (g.L.Label.labels K label) labelled c.args.code c.q.result c.m-m.result _ c.q.ensures c.m-m.ensures
    (written c.q.result c.m-m.result c.args.code _ (omega (arith, labelled.sizes.3, c.m-m.ensures)) c.write_word.ensures)
    _ c.in_ok-zero.ensures in
    let all = copied _ _ c.args.strip.now c.copy_ring.new.strip c.copy_ring.result is c.copy_ring.ensures.answer c.copy_ring.ensures.strip in
    record { answer = all.0; strip = all.1 }
