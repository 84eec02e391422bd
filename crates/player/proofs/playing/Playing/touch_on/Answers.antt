use Rattle.std.proofs.Common.{ℕ, min, length, List, take, set, ◌≡◌, sym, ◌∙◌, subst, arith}
use Rattle.std.proofs.lemmas.List.{length-map, length-take-le}
use Rattle.std.proofs.Math.Seq.{take-set-lt}
use Rattle.automaton.specs.Words.{Letters}
use Rattle.automaton.specs.Meanings.{Local, Weights}
use Rattle.bench.specs.States.{holding_bench}
use Rattle.player.specs.Calls.{charges}
use Rattle.player.specs.Calls.PlayerCall.{touches}
use Rattle.player.specs.Near.{up_to}
use Rattle.player.specs.Promises.{touch_gain, Books, meant, touch_strips}
use Rattle.player.proofs.Passed.{letters_passed, front_below, last_below, touches_fit}
use Rattle.player.proofs.Kept.{letters_set}
use Rattle.player.proofs.Touches.{front-twice}
use Rattle.player.proofs.Near.{near_gains}
use Rattle.player.proofs.playing.Playing.touch_on.Goals as goal

pub sites-requires-clause-letters : goal.sites-requires-clause-letters
sites-requires-clause-letters g c =
    let K = g.C.Charge.kind in
    let a = c.args in
    let q = (g.R.Rule.meaning a.self.now.bench.parts.rule).q in
    front_below q (take a.self.now.len a.cells.now) _ (letters_passed q a.self.now.len (touches a.site a.letter) (meant K (touch_strips a.cells.now a.touched.now)) c.requires)

pub sites-requires-2-clause-letters : goal.sites-requires-2-clause-letters
sites-requires-2-clause-letters g c =
    let K = g.C.Charge.kind in
    let a = c.args in
    let q = (g.R.Rule.meaning a.self.now.bench.parts.rule).q in
    let handed = meant K (touch_strips a.cells.now a.touched.now) in
    let below = letters_passed q a.self.now.len (touches a.site a.letter) handed c.requires in
    let fit = touches_fit q a.self.now.len a.site a.letter handed c.requires in
    subst (Letters q) (sym (take-set-lt a.self.now.len a.cells.now a.site a.letter fit.2))
    (letters_set q (take a.self.now.len a.cells.now) a.site a.letter (last_below q (take a.self.now.len a.cells.now) a.letter below) (front_below q (take a.self.now.len a.cells.now) _ below))

pub returns-clause-touched : goal.returns-clause-touched
returns-clause-touched g c =
    let K = g.C.Charge.kind in
    let G = K.group in
    let a = c.args in
    let L = a.self.now.len in
    let r = g.R.Rule.meaning a.self.now.bench.parts.rule in
    let d = g.D.Density.weights K a.self.now.bench.parts.density in
    let fit = touches_fit r.q L a.site a.letter (meant K (touch_strips a.cells.now a.touched.now)) c.requires in
    let front = take L a.cells.now in
    let size : length front ≡ L = length-take-le L a.cells.now fit.0 in
    let count = c.holders-count.ensures in
    let made = c.sites.ensures in
    let made-2 = c.sites-2.ensures in
    let old = a.touched.now in
    let mid = c.book_up_to.new.strip in
    let new = c.book_up_to-2.new.strip in
    let near : ℕ → (ℕ → G.Carrier) → ℕ → G.Carrier = up_to G L a.site in
    let before : Local → Weights G.Carrier → List ℕ → ℕ → G.Carrier = λ r d cells i. G.neg (charges K r d cells i) in
    let taken : ℕ × Local × Weights G.Carrier × List ℕ → Type 0 = λ x. Books K L (near x.0 (before x.1 x.2 x.3)) old mid in
    let given : ℕ × Local × Weights G.Carrier × List ℕ → Type 0 = λ x. Books K L (near x.0 (charges K x.1 x.2 x.3)) mid new in
    front-twice K (near (min d.k L) (before r d front)) (near (min d.k L) (charges K r d (set front a.site a.letter))) (touch_gain (holding_bench a.self.now.bench) a.site a.letter front) L old mid new
    (omega (arith, fit.1, length-map old K.means))
    (λ i h. near_gains K r d front L a.site a.letter i size fit.2 h)
    (subst taken (λ j. (count j, g.R.Rule.meaning (made.bench j).parts.rule, g.D.Density.weights K (made.bench j).parts.density, made.ring j)) c.book_up_to.ensures)
    (subst given (λ j. (count j, g.R.Rule.meaning (made-2.bench j).parts.rule, g.D.Density.weights K (made-2.bench j).parts.density, (made-2.ring ∙ take-set-lt L a.cells.now a.site a.letter fit.2) j)) c.book_up_to-2.ensures)
