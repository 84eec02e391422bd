-- What a step moves into each site and out of it, on a bench that holds. Assumes nothing.
use Rattle.std.proofs.Common.{◌≡◌, ℕ, suc, ◌+◌, ◌-◌, ◌*◌, ◌^◌, ◌≤◌, List, length, take, drop, Some, None, Ok, Option, sym, refl, ap, ◌∙◌, subst, ap₂, suc-add, arith}
use Rattle.std.proofs.lemmas.Bool.Decides.{nat_tests}
use Rattle.charge.specs.Groups.{Group, Kind, minus}
use Rattle.charge.proofs.Sums.{left_comm, unit-right}
use Rattle.automaton.specs.Words.{Letters, window, cell, before}
use Rattle.automaton.specs.Meanings.{Local, Weights, Lawful, Weighed, weight, next}
use Rattle.automaton.proofs.Rings.{take-window, window_turn, turns, cell_turn, ring-word}
use Rattle.automaton.proofs.Steps.{before-after, length-next, site-window}
use Rattle.criterion.specs.Balance.{Balances}
use Rattle.criterion.specs.Search.{padding, J, failure}
use Rattle.bench.specs.Labels.{rule_label, rule_label_list}
use Rattle.bench.specs.Benches.{bench_of}
use Rattle.bench.specs.Laws.{KeepsTotal, VerdictRight}
use Rattle.bench.specs.Verdicts.{bench_checked, judge_found}
use Rattle.bench.proofs.Gains.{label-window}
use Rattle.bench.proofs.Rights.{verdict_right}
use Rattle.player.specs.Calls.{charges, crossing_at}

pub add_from-minus : (G : Group) (x y z : G.Carrier) → minus G x y ≡ z → x ≡ G.add y z
add_from-minus G x y z e =
    sym (unit-right G x) ∙ ap (G.add x) (sym (G.cancel y)) ∙ left_comm G x y (G.neg y) ∙ ap (G.add y) e

module _ {C : Type 0} (K : Kind C) (r : Local) (d : Weights K.group.Carrier) where
  -- a bench that keeps every total balances every word
  pub balance : Lawful r → Weighed d → bench_checked (bench_of K r d) ≡ Ok tt → KeepsTotal K.group r d →
      Balances K.group (rule_label K.group r d) r.q (r.n + d.k - 1) (J K padding (rule_label_list K.group r d))
  balance lawful weighed passed keeps =
      told (failure K padding (rule_label_list K.group r d)) (subst (VerdictRight (bench_of K r d)) roomy (verdict_right K crossing_room ring_room (bench_of K r d) lawful weighed))
    where
      crossing_room : ℕ
      crossing_room = r.q ^ (r.n + d.k - 1 - 1)

      ring_room : ℕ
      ring_room = 2 * (r.n + d.k - 1) - 1

      roomy : judge_found (bench_of K r d) crossing_room ring_room ≡ Ok (failure K padding (rule_label_list K.group r d))
      roomy = grind (arith, nat_tests)

      told : (f : Option (ℕ × List ℕ)) → VerdictRight (bench_of K r d) (Ok f) →
          Balances K.group (rule_label K.group r d) r.q (r.n + d.k - 1) (J K padding (rule_label_list K.group r d))
      told None right = right.1.0
      told (Some f) right = absurd (right.3 (keeps f.1 right.0 right.2))

  -- a site gains what crosses into it, less what crosses into the next
  pub site_moves : Lawful r → Weighed d → Balances K.group (rule_label K.group r d) r.q (r.n + d.k - 1) (J K padding (rule_label_list K.group r d)) →
      (c : List ℕ) → 1 ≤ length c → Letters r.q c → (i : ℕ) →
      charges K r d (next r c) i ≡ K.group.add (charges K r d c i) (minus K.group (crossing_at K r d c i) (crossing_at K r d c (suc i)))
  site_moves lawful weighed balances c some below i =
      let G = K.group in
      let cross : List ℕ → G.Carrier = J K padding (rule_label_list G r d) in
      let m : ℕ = r.n + d.k - 1 in
      let p : ℕ = r.n + d.k - 2 in
      let s : ℕ → ℕ = cell c in
      let b : ℕ = before (length c) r.l i in
      let width : m ≡ suc p = omega (arith, lawful.sizes.2, weighed.sizes.2) in
      let here : b + r.l ≡ i + r.l * length c = omega (arith, before-after (length c) r.l i some) in
      add_from-minus G (charges K r d (next r c) i) (charges K r d c i) (minus G (crossing_at K r d c i) (crossing_at K r d c (suc i)))
      (ap₂ (minus G) (sym (turned (next r c) (length-next r c) i (b + r.l) here)) (sym (turned c refl i (b + r.l) here))
      ∙ sym (label-window G r d lawful.sizes.4 c some b)
      ∙ balances (window m s b) (ring-word r.q m c some below b)
      ∙ ap₂ (λ v u. minus G (cross v) (cross u))
      (ap (λ n. take n (window m s b)) (omega arith) ∙ take-window p m s b (omega arith))
      (ap (λ n. drop 1 (window n s b)) width ∙ ap (window p s) (sym (suc-add i ((length c - 1) * r.l)))))
    where
      -- some rounds on, a site has the same charge
      turned : (o : List ℕ) → length o ≡ length c → (i t : ℕ) → t ≡ i + r.l * length c → weight K.group d (window d.k (cell o) t) ≡ charges K r d o i
      turned o size i t e =
          ap (λ t. weight K.group d (window d.k (cell o) t)) (e ∙ ap (λ n. i + r.l * n) (sym size))
          ∙ turns (λ t. weight K.group d (window d.k (cell o) t)) (length o)
          (λ t. ap (weight K.group d) (window_turn d.k (cell o) (length o) (cell_turn o) t)) r.l i
          ∙ sym (site-window K.group d o i)
