-- What holds on each line of a log without gaps. Assumes nothing.
use Rattle.std.proofs.Common.{◌≡◌, ℕ, zero, suc, ◌+◌, ◌≤◌, true, ltb, List, ◌++◌, length, take, drop, set, Ok, Err, Result, sym, refl, ap, ◌∙◌, subst, ap₂, add-zero, length-set, take_at, take-append-drop, leb-true, arith}
use Rattle.std.proofs.lemmas.Bool.Decides.{nat_tests}
use Rattle.fault.specs.declared.Stop.TheVariants.{BadLetter}
use Rattle.fault.specs.Checks.{each_fits}
use Rattle.fault.specs.Refusals.{Refusal}
use Rattle.charge.specs.Groups.{Kind, minus}
use Rattle.charge.proofs.Sums.{unit-right}
use Rattle.automaton.specs.Words.{round}
use Rattle.automaton.specs.Meanings.{Local, Weights, Lawful, Weighed, next}
use Rattle.automaton.proofs.Passes.{ring-letters}
use Rattle.automaton.proofs.Rings.{length-table}
use Rattle.automaton.proofs.Steps.{length-next}
use Rattle.bench.specs.Laws.{KeepsTotal}
use Rattle.bench.specs.Benches.{bench_of}
use Rattle.bench.specs.Verdicts.{bench_checked}
use Rattle.player.specs.Calls.{PlayerCall, PlayerRing, PlayerStrips, CallOutcome, size, call_checked, ring_in, charges, crossing_at, opened, put, stepped, work, call_answer, worked, passed_or}
use Rattle.player.specs.Calls.PlayerCall.{opens, touches, steps, reads, closes}
use Rattle.player.specs.Calls.PlayerAnswer.{refused}
use Rattle.player.specs.Logs.{LogLine, Log, allowed, ended, used, accepted, Accepted, standing, HandedOn, OnEveryLine, plain_answer, plain_after, plain, GoesOn, WithoutGaps, ArcsAgree, LineTrue, LogsTrue}
use Rattle.player.specs.Logs.Log.{made, ◌then◌}
use Rattle.player.proofs.Passed.{letters_passed, last_below}
use Rattle.player.proofs.Kept.{Kept, length-booked, opened_kept, put_kept, stepped_kept, arcs_agree}

-- what an opening has passed
opens_passed : {A : Type 0} (q L : ℕ) (ring : List ℕ) (s : PlayerStrips A) → call_checked q L (opens ring) s ≡ Ok tt →
    (1 ≤ L) × (each_fits (λ a. ltb a q) BadLetter 0 ring ≡ Ok tt)
opens_passed q L ring s e = grind (arith, nat_tests)

-- a front that is laid where it stood
pub front_again : {X : Type 0} (n : ℕ) (xs : List X) → take n (take n xs ++ drop n xs) ≡ take n xs
front_again n xs = ap (take n) (take-append-drop n xs)

pub ring_same : {A : Type 0} (p o : PlayerRing A) → p.cells ≡ o.cells → p.opening ≡ o.opening → p.crossed ≡ o.crossed → p.touched ≡ o.touched → p ≡ o
ring_same p o a b c d = λ i. record { cells = a i; opening = b i; crossed = c i; touched = d i }

module _ {C : Type 0} (K : Kind C) (r : Local) (d : Weights K.group.Carrier) (lawful : Lawful r) (weighed : Weighed d) (passed : bench_checked (bench_of K r d) ≡ Ok tt)
    (keeps : KeepsTotal K.group r d) where
  -- where a ring is open, it is kept
  abbrev Sound : PlayerRing K.group.Carrier → Type 0
  Sound p = 1 ≤ length p.cells → Kept K r d p

  -- what is shown of a line, whose refusal is w
  abbrev Shown : PlayerRing K.group.Carrier → PlayerCall → PlayerStrips K.group.Carrier → Result (Unit {0}) Refusal → CallOutcome K.group.Carrier → Type 0
  Shown p call s w got =
      let after : PlayerRing K.group.Carrier = passed_or w (ended call (work K r d call p)) (λ _. p) in
      (got.said ≡ passed_or w (call_answer K r d call p) refused)
      × (accepted got.said (ended call (used call (ring_in (size call (length p.cells)) got.left) p)) p ≡ after)
      × Sound after

  abbrev WorkShown : PlayerRing K.group.Carrier → PlayerCall → PlayerStrips K.group.Carrier → Type 0
  WorkShown p call s = Shown p call s (Ok tt) (worked K r d (size call (length p.cells)) call s)

  opens_shown : (p : PlayerRing K.group.Carrier) (ring : List ℕ) (s : PlayerStrips K.group.Carrier) → call_checked r.q (length ring) (opens ring) s ≡ Ok tt →
      WorkShown p (opens ring) s
  opens_shown p ring s e =
      let G = K.group in
      let L : ℕ = length ring in
      let new : PlayerRing G.Carrier = opened K r d ring in
      let ready = opens_passed r.q L ring s e in
      let nothing : length (new.crossed) ≡ L = length-table L (λ _. G.zero) in (
        refl,
        ring_same (ring_in L (worked K r d L (opens ring) s).left) new
            (take_at ring (drop L s.cells) L refl)
            (take_at new.opening (drop L s.opening) L (length-table L (charges K r d ring)))
            (take_at new.crossed (drop L s.crossed) L nothing)
            (take_at new.touched (drop L s.touched) L nothing),
        λ _. opened_kept K r d ring ready.0 (ring-letters r.q ring ready.1),
      )

  touches_shown : (p : PlayerRing K.group.Carrier) → Sound p → 1 ≤ length p.cells → (i a : ℕ) (s : PlayerStrips K.group.Carrier) → HandedOn (touches i a) s p →
      call_checked r.q (length p.cells) (touches i a) s ≡ Ok tt → WorkShown p (touches i a) s
  touches_shown p sound playing i a s on e =
      let L : ℕ = length p.cells in
      let h : PlayerRing K.group.Carrier = ring_in L s in
      let new : PlayerRing K.group.Carrier = put K r d i a h in
      let cells : h.cells ≡ p.cells = ap (λ x. x.cells) on in
      let touched : h.touched ≡ p.touched = ap (λ x. x.touched) on in (
        refl,
        ring_same (used (touches i a) (ring_in L (worked K r d L (touches i a) s).left) p) (put K r d i a p)
            (take_at new.cells (drop L s.cells) L (length-set h.cells i a ∙ ap length cells) ∙ ap (λ c. set c i a) cells)
            refl
            refl
            (take_at new.touched (drop L s.touched) L
            (length-booked K.group (λ j. minus K.group (charges K r d new.cells j) (charges K r d h.cells j)) h.touched
            ∙ ap length touched
            ∙ (sound playing).touched_long)
            ∙ ap₂ (λ c t. (put K r d i a (record { cells = c; opening = p.opening; crossed = p.crossed; touched = t })).touched) cells touched),
        λ _. put_kept K r d p i a (last_below r.q h.cells a (letters_passed r.q L (touches i a) s e)) (sound playing),
      )

  steps_shown : (p : PlayerRing K.group.Carrier) → Sound p → 1 ≤ length p.cells → (s : PlayerStrips K.group.Carrier) → HandedOn steps s p → WorkShown p steps s
  steps_shown p sound playing s on =
      let L : ℕ = length p.cells in
      let h : PlayerRing K.group.Carrier = ring_in L s in
      let new : PlayerRing K.group.Carrier = stepped K r d h in
      let cells : h.cells ≡ p.cells = ap (λ x. x.cells) on in
      let crossed : h.crossed ≡ p.crossed = ap (λ x. x.crossed) on in (
        refl,
        ring_same (used steps (ring_in L (worked K r d L steps s).left) p) (stepped K r d p)
            (take_at new.cells (drop L s.cells) L (length-next r h.cells ∙ ap length cells) ∙ ap (next r) cells)
            refl
            (take_at new.crossed (drop L s.crossed) L
            (length-booked K.group (crossing_at K r d h.cells) h.crossed ∙ ap length crossed ∙ (sound playing).crossed_long)
            ∙ ap₂ (λ c x. (stepped K r d (record { cells = c; opening = p.opening; crossed = x; touched = p.touched })).crossed) cells crossed)
            refl,
        λ _. stepped_kept K r d lawful weighed passed keeps p (sound playing),
      )

  reads_shown : (p : PlayerRing K.group.Carrier) → Sound p → (i : ℕ) (s : PlayerStrips K.group.Carrier) → HandedOn (reads i) s p → WorkShown p (reads i) s
  reads_shown p sound i s on =
      let L : ℕ = length p.cells in (
        ap (call_answer K r d (reads i)) on,
        ring_same (ring_in L (worked K r d L (reads i) s).left) (ring_in L s)
            (front_again L s.cells) (front_again L s.opening) (front_again L s.crossed) (front_again L s.touched)
            ∙ on,
        sound,
      )

  work_shown : (p : PlayerRing K.group.Carrier) → Sound p → (call : PlayerCall) (s : PlayerStrips K.group.Carrier) → allowed call (length p.cells) ≡ true →
      call_checked r.q (size call (length p.cells)) call s ≡ Ok tt → (Accepted (worked K r d (size call (length p.cells)) call s).said → HandedOn call s p) → WorkShown p call s
  work_shown p sound (opens ring) s order e on = opens_shown p ring s e
  work_shown p sound (touches i a) s order e on = touches_shown p sound (leb-true 1 (length p.cells) order) i a s (on tt) e
  work_shown p sound steps s order e on = steps_shown p sound (leb-true 1 (length p.cells) order) s (on tt)
  work_shown p sound (reads i) s order e on = reads_shown p sound i s (on tt)
  work_shown p sound closes s order e on = (refl, refl, λ h. absurd (omega arith))

  line_shown : (p : PlayerRing K.group.Carrier) → Sound p → (line : LogLine K.group.Carrier) → GoesOn K r d p line →
      Shown p line.call line.handed (call_checked r.q (size line.call (length p.cells)) line.call line.handed) line.got
  line_shown p sound line on = go (call_checked r.q (size call (length p.cells)) call s) refl line.got (sym on.promise) on.no_gap
    where
      call : PlayerCall
      call = line.call

      s : PlayerStrips K.group.Carrier
      s = line.handed

      go : (w : Result (Unit {0}) Refusal) → call_checked r.q (size call (length p.cells)) call s ≡ w → (got : CallOutcome K.group.Carrier) →
          got ≡ passed_or w (worked K r d (size call (length p.cells)) call s) (λ f. record { said = refused f; left = s }) → (Accepted got.said → HandedOn call s p) → Shown p call s w got
      go (Ok t) e got is = subst (λ o. (Accepted o.said → HandedOn call s p) → Shown p call s (Ok t) o) (sym is) (work_shown p sound call s on.order e)
      go (Err f) e got is = subst (λ o. (Accepted o.said → HandedOn call s p) → Shown p call s (Err f) o) (sym is) (λ _. (refl, refl, sound))

  -- on a ring of no cells every arc is empty
  arcs : (p : PlayerRing K.group.Carrier) → Sound p → ArcsAgree K r d p
  arcs p sound a zero within =
      let G = K.group in
      let x : ℕ → G.Carrier = round G.zero p.crossed in
      sym
      (unit-right G (G.add G.zero (minus G (x a) (x (a + 0))))
      ∙ G.unit (minus G (x a) (x (a + 0)))
      ∙ ap (λ i. minus G (x a) (x i)) (add-zero a)
      ∙ G.cancel (x a))
  arcs p sound a (suc n) within = arcs_agree K r d p (sound (omega arith)) a (suc n) within

  -- what stands is what the plain ring keeps
  followed : (log : Log K.group.Carrier) → WithoutGaps K r d log → (standing log ≡ plain K r d log) × Sound (standing log)
  followed made whole = (refl, λ h. absurd (omega arith))
  followed (log then line) whole =
      let before = followed log whole.0 in
      let shown = line_shown (standing log) before.1 line whole.1 in (
        shown.1 ∙ ap (λ p. plain_after K r d p line.call line.handed) before.0,
        subst Sound (sym shown.1) shown.2,
      )

  lines_true : (log : Log K.group.Carrier) → WithoutGaps K r d log → OnEveryLine (LineTrue K r d) log
  lines_true made whole = tt
  lines_true (log then line) whole =
      let before = followed log whole.0 in
      let now = followed (log then line) whole in (
        lines_true log whole.0,
        record {
          answers = (line_shown (standing log) before.1 line whole.1).0 ∙ ap (λ p. plain_answer K r d p line.call line.handed) before.0;
          rings = now.0;
          arcs = arcs (standing (log then line)) now.1;
        },
      )

pub logs_true : {C : Type 0} (K : Kind C) → LogsTrue K
logs_true K = lines_true K
