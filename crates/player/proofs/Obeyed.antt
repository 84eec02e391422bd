-- A call that is handed all strips does what it does on those that it takes. Assumes nothing.
use Rattle.std.proofs.Common.{◌≡◌, ℕ, ◌≤◌, true, cond, List, map, Some, None, Ok, Err, Result, sym, refl, ap, ◌∙◌, subst, le-leb}
use Rattle.std.proofs.lemmas.List.{take-append-drop}
use Rattle.fault.specs.declared.Fault.{Fault}
use Rattle.fault.specs.Refusals.{Refusal}
use Rattle.charge.specs.Groups.{Kind}
use Rattle.player.specs.declared.call.Answer.{Answer}
use Rattle.player.specs.declared.meters.Reading.{Reading}
use Rattle.player.specs.Calls.{PlayerCall, PlayerAnswer, PlayerStrips, CallOutcome, size, call_checked, passed_or, worked, outcome}
use Rattle.player.specs.Calls.PlayerCall.{touches, steps, reads}
use Rattle.player.specs.Calls.PlayerAnswer.{done, reading, refused}
use Rattle.player.specs.Logs.{allowed, accepted}
use Rattle.player.specs.Scripts.{still_open}
use Rattle.player.specs.Answers.{answer_meant, done_said, read_said, done_or_refused, read_or_refused, Stays}
use Rattle.player.specs.Promises.{OpenRing, all_strips, meter_strips, touch_strips, step_strips, meant, DoesOn}
use Rattle.player.specs.Obeying.{written_after, ObeysOn, StaysPast}

accepted_same : {A X : Type 0} (said : PlayerAnswer A) (x : X) → accepted said x x ≡ x
accepted_same done x = refl
accepted_same (reading o c t n) x = refl
accepted_same (refused f) x = refl

-- an allowed call that leaves the ring open, by what it does on the strips that it takes
module _ {C : Type 0} {K : Kind C} (ring : OpenRing K) (call : PlayerCall) (old : PlayerStrips C) where
  abbrev does : PlayerStrips C → CallOutcome K.group.Carrier
  does s = outcome K ring.bench.rule ring.bench.density (size call ring.len) call (meant K s)

  wide : (taken new : PlayerStrips C) (all : CallOutcome K.group.Carrier → CallOutcome K.group.Carrier) (answer : Answer C) →
      allowed call ring.len ≡ true → still_open call (size call ring.len) ≡ ring.len → does old ≡ all (does taken) →
      all (does taken) ≡ record { said = answer_meant K answer; left = meant K new } → StaysPast (written_after (Some answer) call ring.len) old new →
      ObeysOn ring call old (Some answer) new ring.len
  wide taken new all answer order same widens is stays =
      let got = widens ∙ is in
      record {
        said = ap (λ o. Some o.said) (sym got) ∙ ap (λ b. cond b (Some (does old).said) None) (sym order);
        left = ap (λ o. o.left) (sym got) ∙ ap (λ b. cond b (does old).left (meant K old)) (sym order);
        still_open =
            sym (accepted_same (does old).said ring.len)
            ∙ ap (λ n. accepted (does old).said n ring.len) (sym same)
            ∙ ap (λ b. cond b (accepted (does old).said (still_open call (size call ring.len)) ring.len) ring.len) (sym order);
        charges = stays;
      }

-- an answer that is given as another
pub answer_is : {C : Type 0} {K : Kind C} {ring : OpenRing K} {call : PlayerCall} {old new : PlayerStrips C} {cells : ℕ} {x y : Answer C} → y ≡ x →
    ObeysOn ring call old (Some x) new cells → ObeysOn ring call old (Some y) new cells
answer_is {C} {K} {ring} {call} {old} {new} {cells} is obeys = subst (λ z. ObeysOn ring call old (Some z) new cells) (sym is) obeys

module _ {C : Type 0} {K : Kind C} (ring : OpenRing K) (playing : 1 ≤ ring.len) (cells spare cells' spare' : List ℕ) (opening crossed touched opening' crossed' touched' : List C) where
  abbrev old : PlayerStrips C
  old = all_strips cells spare opening crossed touched

  abbrev L : ℕ
  L = ring.len

  -- a call by its refusal, if there is one
  abbrev by : PlayerCall → PlayerStrips C → Result (Unit {0}) Refusal → CallOutcome K.group.Carrier
  by call s w = passed_or w (worked K ring.bench.rule ring.bench.density L call (meant K s)) (λ f. record { said = refused f; left = meant K s })

  module _ (i a : ℕ) where
    abbrev touch_all : CallOutcome K.group.Carrier → CallOutcome K.group.Carrier
    touch_all o = record { said = o.said; left = record { cells = o.left.cells; spare = spare; opening = map K.means opening; crossed = map K.means crossed; touched = o.left.touched } }

    touch_widens : (w : Result (Unit {0}) Refusal) → by (touches i a) old w ≡ touch_all (by (touches i a) (touch_strips cells touched) w)
    touch_widens (Ok t) = λ j. record {
      said = done;
      left = record {
        cells = (by (touches i a) old (Ok tt)).left.cells;
        spare = spare;
        opening = take-append-drop L (map K.means opening) j;
        crossed = take-append-drop L (map K.means crossed) j;
        touched = (by (touches i a) old (Ok tt)).left.touched;
      };
    }
    touch_widens (Err f) = refl

    pub touches_obeyed : (told : Result (Unit {0}) Fault) → DoesOn ring (touches i a) (touch_strips cells touched) (done_said K told) (touch_strips cells' touched') →
        Stays told L touched touched' → ObeysOn ring (touches i a) old (Some (done_or_refused told)) (all_strips cells' spare opening crossed touched') L
    touches_obeyed (Ok t) promise stays =
        wide ring (touches i a) old (touch_strips cells touched) _ touch_all _ (le-leb 1 L playing) refl
        (touch_widens (call_checked ring.bench.rule.q L (touches i a) (meant K old))) (ap touch_all promise) (refl, refl, stays)
    touches_obeyed (Err f) promise stays =
        wide ring (touches i a) old (touch_strips cells touched) _ touch_all _ (le-leb 1 L playing) refl
        (touch_widens (call_checked ring.bench.rule.q L (touches i a) (meant K old))) (ap touch_all promise) (refl, refl, stays)

  abbrev step_all : CallOutcome K.group.Carrier → CallOutcome K.group.Carrier
  step_all o = record { said = o.said; left = record { cells = o.left.cells; spare = o.left.spare; opening = map K.means opening; crossed = o.left.crossed; touched = map K.means touched } }

  step_widens : (w : Result (Unit {0}) Refusal) → by steps old w ≡ step_all (by steps (step_strips cells spare crossed) w)
  step_widens (Ok t) = λ j. record {
    said = done;
    left = record {
      cells = (by steps old (Ok tt)).left.cells;
      spare = (by steps old (Ok tt)).left.spare;
      opening = take-append-drop L (map K.means opening) j;
      crossed = (by steps old (Ok tt)).left.crossed;
      touched = take-append-drop L (map K.means touched) j;
    };
  }
  step_widens (Err f) = refl

  pub steps_obeyed : (told : Result (Unit {0}) Fault) → DoesOn ring steps (step_strips cells spare crossed) (done_said K told) (step_strips cells' spare' crossed') →
      Stays told L crossed crossed' → ObeysOn ring steps old (Some (done_or_refused told)) (all_strips cells' spare' opening crossed' touched) L
  steps_obeyed (Ok t) promise stays =
      wide ring steps old (step_strips cells spare crossed) _ step_all _ (le-leb 1 L playing) refl
      (step_widens (call_checked ring.bench.rule.q L steps (meant K old))) (ap step_all promise) (refl, stays, refl)
  steps_obeyed (Err f) promise stays =
      wide ring steps old (step_strips cells spare crossed) _ step_all _ (le-leb 1 L playing) refl
      (step_widens (call_checked ring.bench.rule.q L steps (meant K old))) (ap step_all promise) (refl, stays, refl)

  module _ (i : ℕ) where
    abbrev read_all : CallOutcome K.group.Carrier → CallOutcome K.group.Carrier
    read_all o = record { said = o.said; left = record { cells = o.left.cells; spare = spare; opening = o.left.opening; crossed = o.left.crossed; touched = o.left.touched } }

    read_widens : (w : Result (Unit {0}) Refusal) → by (reads i) old w ≡ read_all (by (reads i) (meter_strips cells opening crossed touched) w)
    read_widens (Ok t) = refl
    read_widens (Err f) = refl

    pub reads_obeyed : (told : Result (Reading C) Fault) →
        DoesOn ring (reads i) (meter_strips cells opening crossed touched) (read_said K told) (meter_strips cells opening' crossed' touched') →
        (opening' ≡ opening) × (crossed' ≡ crossed) × (touched' ≡ touched) →
        ObeysOn ring (reads i) old (Some (read_or_refused told)) (all_strips cells spare opening' crossed' touched') L
    reads_obeyed (Ok m) promise kept =
        wide ring (reads i) old (meter_strips cells opening crossed touched) _ read_all _ (le-leb 1 L playing) refl
        (read_widens (call_checked ring.bench.rule.q L (reads i) (meant K old))) (ap read_all promise) kept
    reads_obeyed (Err f) promise kept =
        wide ring (reads i) old (meter_strips cells opening crossed touched) _ read_all _ (le-leb 1 L playing) refl
        (read_widens (call_checked ring.bench.rule.q L (reads i) (meant K old))) (ap read_all promise) kept
