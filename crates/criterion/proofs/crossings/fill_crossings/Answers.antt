use Rattle.std.proofs.Common.{◌≡◌, ℕ, ◌-◌, ◌/◌, ◌^◌, ◌<◌, map, get_or, refl, sym, ap, length-set, ◌∙◌, arith, take_all}
use native.Mathlib.Nat.{div-lt_self}
use Rattle.automaton.specs.Words.{word, table}
use Rattle.automaton.proofs.Codes.{power-some}
use Rattle.automaton.proofs.Rings.{get_or-table}
use Rattle.criterion.specs.Search.{J}
use Rattle.criterion.proofs.Sizes.{some-letters}
use Rattle.criterion.proofs.Prefixes.{crossing-prefix, fill_more, filled_so-far}
use Rattle.criterion.proofs.crossings.fill_crossings.Goals as goal

pub bounds-strip-0 : goal.bounds-strip-0
bounds-strip-0 g c =
    let d = g.L.Label.labels g.C.Charge.kind c.args.label.now in
    omega (arith, c.requires, power-some d.q (some-letters d (g.L.Label.lawful g.C.Charge.kind c.args.label.now)) (d.m - 1))

pub loop-v-init : goal.loop-v-init
loop-v-init g c =
    let K = g.C.Charge.kind in
    let d = g.L.Label.labels K c.args.label.now in
    let some = power-some d.q (some-letters d (g.L.Label.lawful K c.args.label.now)) (d.m - 1) in (
      omega arith,
      fill_more K.means (λ v. J K 0 d (word d.q (d.m - 1) v)) c.args.strip.now 0 c.crossing.result
          (omega (arith, c.requires, some))
          (c.crossing.ensures ∙ get_or-table (d.q ^ (d.m - 1)) (λ v. J K 0 d (word d.q (d.m - 1) v)) K.group.zero 0 some) refl,
    )

pub loop-v-preserved : goal.loop-v-preserved
loop-v-preserved g c =
    let K = g.C.Charge.kind in
    let d = g.L.Label.labels K c.args.label.now in
    let some = some-letters d (g.L.Label.lawful K c.args.label.now) in
    let J_at = λ (v : ℕ). J K 0 d (word d.q (d.m - 1) v) in
    let v : ℕ = c.loop-v.v in
    let shorter : v / d.q < v = div-lt_self (omega arith) (omega (arith, (g.L.Label.lawful K c.args.label.now).sizes.0)) in
    let prefix : v / c.q-q.result ≡ v / d.q = ap (λ q. v / q) c.q-q.ensures in
    let prefix_is : K.means c.index-strip-v.result ≡ J_at (v / d.q) =
    filled_so-far K.means J_at c.loop-v.strip v (v / d.q) c.index-strip-v.result c.loop-v.invariant.1 shorter
    (c.index-strip-v.is ∙ ap (λ i. get_or c.loop-v.strip i c.index-strip-v.result) prefix) in (
      omega arith,
      fill_more K.means J_at c.loop-v.strip v c.next_crossing.result (omega arith)
          (c.next_crossing.ensures ∙ crossing-prefix K d v _ _ _ some (omega (arith, length-set c.args.strip.now 0 c.crossing.result, c.requires)) prefix_is c.label-zeros.ensures c.label.ensures) c.loop-v.invariant.1,
    )

pub returns : goal.returns
returns g c =
    let K = g.C.Charge.kind in
    let d = g.L.Label.labels K c.args.label.now in
    let some = power-some d.q (some-letters d (g.L.Label.lawful K c.args.label.now)) (d.m - 1) in
    let all : c.loop-v.v ≡ d.q ^ (d.m - 1) = omega (arith, some, c.requires, length-set c.args.strip.now 0 c.crossing.result) in
    ap (map K.means) (sym (take_all c.loop-v.v c.loop-v.strip (omega arith))) ∙ c.loop-v.invariant.1 ∙ ap (λ n. table n (λ v. J K 0 d (word d.q (d.m - 1) v))) all
