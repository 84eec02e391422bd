-- A script leaves the ring that stands at the front of the strips, and its log has no gaps. Assumes nothing.
use Rattle.std.proofs.Common.{◌≡◌, ℕ, ◌≤◌, Bool, true, false, cond, List, [], ◌∷◌, ◌++◌, length, take, drop, set, fold, Ok, Err, Result, sym, refl, ap, ◌∙◌, subst, length-set, take_at, leb-true, arith}
use Rattle.std.proofs.lemmas.List.Sums.{fold_push}
use Rattle.fault.specs.Refusals.{Refusal}
use Rattle.charge.specs.Groups.{Kind}
use Rattle.automaton.specs.Meanings.{Local, Weights, next}
use Rattle.automaton.proofs.Steps.{length-next}
use Rattle.player.specs.Calls.{PlayerCall, PlayerRing, PlayerStrips, CallOutcome, size, call_checked, ring_in, worked, passed_or, outcome}
use Rattle.player.specs.Calls.PlayerCall.{opens, touches, steps, reads, closes}
use Rattle.player.specs.Calls.PlayerAnswer.{refused}
use Rattle.player.specs.Logs.{LogLine, Log, allowed, ended, used, accepted, standing, HandedOn, WithoutGaps}
use Rattle.player.specs.Logs.Log.{◌then◌}
use Rattle.player.specs.Scripts.{PlayedScript, got, left_by, logged, still_open, cells_after, played_more, played}
use Rattle.player.proofs.Logs.{front_again, ring_same}

-- where a ring is open, it is the front of the strips
abbrev pub Stands : {A : Type 0} → PlayerRing A → PlayerStrips A → Type 0
Stands p s = 1 ≤ length p.cells → p ≡ ring_in (length p.cells) s

stands_in : {A : Type 0} (p : PlayerRing A) (s : PlayerStrips A) (L : ℕ) → p ≡ ring_in L s → length p.cells ≡ L → Stands p s
stands_in p s L is size = λ _. is ∙ ap (λ n. ring_in n s) (sym size)

handed_on : {A : Type 0} (p : PlayerRing A) (s : PlayerStrips A) → Stands p s → (call : PlayerCall) → allowed call (length p.cells) ≡ true → HandedOn call s p
handed_on p s stands (opens ring) order = tt
handed_on p s stands (touches i a) order =
    subst (λ x. used (touches i a) (ring_in (length p.cells) s) x ≡ x) (sym (stands (leb-true 1 (length p.cells) order))) refl
handed_on p s stands steps order = subst (λ x. used steps (ring_in (length p.cells) s) x ≡ x) (sym (stands (leb-true 1 (length p.cells) order))) refl
handed_on p s stands (reads i) order = sym (stands (leb-true 1 (length p.cells) order))
handed_on p s stands closes order = tt

module _ {C : Type 0} (K : Kind C) (r : Local) (d : Weights K.group.Carrier) where
  -- the ring that stands after a call
  abbrev after : PlayerRing K.group.Carrier → PlayerCall → CallOutcome K.group.Carrier → PlayerRing K.group.Carrier
  after p call got = accepted got.said (ended call (used call (ring_in (size call (length p.cells)) got.left) p)) p

  -- and how many cells it has
  abbrev Leaves : PlayerRing K.group.Carrier → PlayerCall → CallOutcome K.group.Carrier → ℕ → Type 0
  Leaves p call got n = Stands (after p call got) got.left × (length (after p call got).cells ≡ n)

  work_stands : (p : PlayerRing K.group.Carrier) (s : PlayerStrips K.group.Carrier) → Stands p s → (call : PlayerCall) → allowed call (length p.cells) ≡ true →
      Leaves p call (worked K r d (size call (length p.cells)) call s) (still_open call (size call (length p.cells)))
  work_stands p s stands (opens ring) order =
      let L : ℕ = length ring in
      let left : PlayerStrips K.group.Carrier = (worked K r d L (opens ring) s).left in
      let count : length (take L left.cells) ≡ L = ap length (take_at ring (drop L s.cells) L refl) in
      (stands_in (ring_in L left) left L refl count, count)
  work_stands p s stands (touches i a) order =
      let L : ℕ = length p.cells in
      let left : PlayerStrips K.group.Carrier = (worked K r d L (touches i a) s).left in
      let is : p ≡ ring_in L s = stands (leb-true 1 L order) in
      let size : length (set (take L s.cells) i a) ≡ L = length-set (take L s.cells) i a ∙ ap (λ x. length x.cells) (sym is) in
      let count : length (take L left.cells) ≡ L = ap length (take_at (set (take L s.cells) i a) (drop L s.cells) L size) ∙ size in (
        stands_in (used (touches i a) (ring_in L left) p) left L
            (ring_same (used (touches i a) (ring_in L left) p) (ring_in L left) refl (ap (λ x. x.opening) is ∙ sym (front_again L s.opening))
            (ap (λ x. x.crossed) is ∙ sym (front_again L s.crossed)) refl)
            count,
        count,
      )
  work_stands p s stands steps order =
      let L : ℕ = length p.cells in
      let left : PlayerStrips K.group.Carrier = (worked K r d L steps s).left in
      let is : p ≡ ring_in L s = stands (leb-true 1 L order) in
      let size : length (next r (take L s.cells)) ≡ L = length-next r (take L s.cells) ∙ ap (λ x. length x.cells) (sym is) in
      let count : length (take L left.cells) ≡ L = ap length (take_at (next r (take L s.cells)) (drop L s.cells) L size) ∙ size in (
        stands_in (used steps (ring_in L left) p) left L
            (ring_same (used steps (ring_in L left) p) (ring_in L left) refl (ap (λ x. x.opening) is ∙ sym (front_again L s.opening))
            refl (ap (λ x. x.touched) is ∙ sym (front_again L s.touched)))
            count,
        count,
      )
  work_stands p s stands (reads i) order =
      let L : ℕ = length p.cells in
      let left : PlayerStrips K.group.Carrier = (worked K r d L (reads i) s).left in
      let count : length (take L left.cells) ≡ L = ap length (front_again L s.cells) ∙ ap (λ x. length x.cells) (sym (stands (leb-true 1 L order))) in
      (stands_in (ring_in L left) left L refl count, count)
  work_stands p s stands closes order = (λ h. absurd (omega arith), refl)

  outcome_stands : (p : PlayerRing K.group.Carrier) (s : PlayerStrips K.group.Carrier) → Stands p s → (call : PlayerCall) → allowed call (length p.cells) ≡ true →
      let L : ℕ = length p.cells in
      let out = outcome K r d (size call L) call s in
      Leaves p call out (accepted out.said (still_open call (size call L)) L)
  outcome_stands p s stands call order = go (call_checked r.q (size call L) call s)
    where
      L : ℕ
      L = length p.cells

      works : CallOutcome K.group.Carrier
      works = worked K r d (size call L) call s

      go : (w : Result (Unit {0}) Refusal) →
          let out = passed_or w works (λ f. record { said = refused f; left = s }) in
          Leaves p call out (accepted out.said (still_open call (size call L)) L)
      go (Ok t) = subst (λ n. Leaves p call works n) (sym (accepts call)) (work_stands p s stands call order)
        where
          accepts : (call : PlayerCall) → accepted (worked K r d (size call L) call s).said (still_open call (size call L)) L ≡ still_open call (size call L)
          accepts (opens ring) = refl
          accepts (touches i a) = refl
          accepts steps = refl
          accepts (reads i) = refl
          accepts closes = refl
      go (Err f) = (stands, refl)

  -- a log without gaps, and what stands is the front of the strips
  abbrev Whole : Log K.group.Carrier → PlayerStrips K.group.Carrier → Type 0
  Whole log s = WithoutGaps K r d log × Stands (standing log) s

  more_whole : (log : Log K.group.Carrier) (s : PlayerStrips K.group.Carrier) (call : PlayerCall) → Whole log s →
      Whole (logged K r d (length (standing log).cells) call s log) (left_by K r d (length (standing log).cells) call s)
  more_whole log s call whole = go (allowed call L) refl
    where
      L : ℕ
      L = length (standing log).cells

      line : LogLine K.group.Carrier
      line = record { call = call; handed = s; got = got K r d L call s }

      go : (b : Bool) → allowed call L ≡ b → Whole (cond b (log then line) log) (cond b (got K r d L call s).left s)
      go true order = (
        (whole.0, record { order = order; promise = refl; no_gap = λ _. handed_on (standing log) s whole.1 call order }),
        (outcome_stands (standing log) s whole.1 call order).0,
      )
      go false order = whole

  played_whole : (p : PlayedScript K.group.Carrier) → Whole p.log p.strips → (script : List PlayerCall) →
      let q = fold (played_more K r d) p script in Whole q.log q.strips
  played_whole p whole [] = whole
  played_whole p whole (call ∷ script) = played_whole (played_more K r d p call) (more_whole p.log p.strips call whole) script

  script_whole : (s : PlayerStrips K.group.Carrier) (script : List PlayerCall) → let q = played K r d s script in Whole q.log q.strips
  script_whole s script = played_whole (played K r d s []) (tt, λ h. absurd (omega arith)) script

  -- where a ring is open after a script, it is the front of the strips as they stand
  pub script_stands : (s : PlayerStrips K.group.Carrier) (script : List PlayerCall) → Stands (standing (played K r d s script).log) (played K r d s script).strips
  script_stands s script = (script_whole s script).1

  -- how many cells the ring has that stands after one call more
  pub cells_stand : (s : PlayerStrips K.group.Carrier) (script : List PlayerCall) (call : PlayerCall) →
      let p = played K r d s script in
      cells_after K r d (length (standing p.log).cells) call p.strips ≡ length (standing (played_more K r d p call).log).cells
  cells_stand s script call = go (allowed call L) refl
    where
      p : PlayedScript K.group.Carrier
      p = played K r d s script

      L : ℕ
      L = length (standing p.log).cells

      out : CallOutcome K.group.Carrier
      out = got K r d L call p.strips

      go : (b : Bool) → allowed call L ≡ b →
          cond b (accepted out.said (still_open call (size call L)) L) L
          ≡ length (standing (cond b (p.log then record { call = call; handed = p.strips; got = out }) p.log)).cells
      go true order = sym (outcome_stands (standing p.log) p.strips (script_stands s script) call order).1
      go false order = refl

  -- one more call
  pub played_push : (s : PlayerStrips K.group.Carrier) (script : List PlayerCall) (call : PlayerCall) →
      played K r d s (script ++ (call ∷ [])) ≡ played_more K r d (played K r d s script) call
  played_push s script call = fold_push (played_more K r d) (played K r d s []) script call

-- the log of a script has no gaps
pub scripts_logged : {C : Type 0} (K : Kind C) (r : Local) (d : Weights K.group.Carrier) (s : PlayerStrips K.group.Carrier) (script : List PlayerCall) →
    WithoutGaps K r d (played K r d s script).log
scripts_logged K r d s script = (script_whole K r d s script).0
