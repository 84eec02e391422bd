-- The meters of sites that go round, and of arcs. Assumes nothing.
use Rattle.std.proofs.Common.{◌≡◌, ℕ, ◌+◌, ◌%◌, ◌<◌, ◌≤◌, cond, ◌&&◌, List, map, length, get_or, Some, None, nat_lt, nat_le, sym, ap, ◌∙◌, ap₂, le-leb}
use Rattle.std.proofs.lemmas.Bool.{lt-ltb}
use Rattle.std.proofs.lemmas.List.{get_or-map, length-map}
use Rattle.charge.specs.Groups.{Kind}
use Rattle.charge.proofs.Sums.{sum_more}
use Rattle.player.specs.declared.meters.Reading.{Reading}
use Rattle.player.specs.Arcs.{meter}
use Rattle.player.specs.Logs.{arc}

module _ {C : Type 0} (K : Kind C) (readings : List (Reading C)) where
  -- the meter of a site by the reading that stands there
  pub meter_at : (part : Reading C → C) (i s : ℕ) (none : Reading C) → i < length readings → i ≡ s % length readings →
      K.means (part (get_or readings i none)) ≡ meter K part readings s
  meter_at part i s none h at =
      let f : Reading C → K.group.Carrier = λ m. K.means (part m) in
      sym (get_or-map f readings i none K.group.zero h)
      ∙ ap (λ n. get_or (map f readings) n K.group.zero) (at ∙ ap (λ n. s % n) (sym (length-map readings f)))

  -- one site more of an arc
  pub arc_more : (part : Reading C → C) (first offset i : ℕ) (m : Reading C) (sum new : C) → i < length readings → i ≡ (first + offset) % length readings → m ≡ get_or readings i m →
      K.means sum ≡ arc K.group (meter K part readings) first offset → K.means new ≡ K.group.add (K.means sum) (K.means (part m)) →
      K.means new ≡ arc K.group (meter K part readings) first (offset + 1)
  arc_more part first offset i m sum new h at is so_far plus =
      plus
      ∙ sum_more K.group (λ t. meter K part readings (first + t)) offset (K.means sum) (K.means (part m)) so_far
      (ap (λ m. K.means (part m)) is ∙ meter_at part i (first + offset) m h at)

-- a ring of L sites has the arc
pub arc_there : {X : Type 0} (first len L : ℕ) (x : X) → first < L → len ≤ L → Some x ≡ cond (nat_lt first L && nat_le len L) (Some x) None
arc_there first len L x a b = ap₂ (λ s t. cond (s && t) (Some x) None) (sym (lt-ltb first L a)) (sym (le-leb len L b))
