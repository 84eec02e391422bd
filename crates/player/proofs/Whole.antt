-- What performing a script on a drafted bench promises of its verdict, crossings and log. Assumes nothing.
use Rattle.std.proofs.Common.{◌≡◌, ℕ, ◌+◌, ◌-◌, ◌*◌, ◌^◌, ◌<◌, Bool, true, false, List, [], ◌∷◌, map, length, get_or, take, drop, Some, None, Ok, Err, Option, Result, MatchBool, nat_le, sym, refl, ap, ◌∙◌, subst, ap₂, take_at, arith, length-take-le, length-drop}
use Rattle.std.specs.Option.{option_map}
use Rattle.std.proofs.lemmas.List.{get_or_append_left}
use Rattle.fault.specs.declared.Stop.TheVariants.{ShortStrip}
use Rattle.fault.specs.Answers.{and_then, at_front}
use Rattle.fault.specs.Checks.{tested}
use Rattle.fault.specs.Refusals.{Refusal, refused_at}
use Rattle.charge.specs.Groups.{Group, Kind, minus}
use Rattle.automaton.specs.Words.{Word, code, word, repeated}
use Rattle.automaton.specs.Meanings.{Local, Weights, Lawful, Weighed, next, total}
use Rattle.automaton.proofs.Codes.{code_lt, word-code}
use Rattle.automaton.proofs.Rings.{length-table, get_or-table, letters-take, letters-drop, repeated-word}
use Rattle.criterion.specs.Answers.{ring_written, unless_refused}
use Rattle.criterion.specs.Balance.{OnlyTable}
use Rattle.criterion.specs.Search.{padding, J, crossings}
use Rattle.criterion.specs.ChargeStrips.{FrontMeans}
use Rattle.bench.specs.Labels.{rule_label, rule_label_list}
use Rattle.bench.specs.declared.state.Refused.{Refused}
use Rattle.bench.specs.declared.state.Verdict.{Verdict}
use Rattle.bench.specs.Answers.{judge_said}
use Rattle.bench.specs.Benches.{Bench, bench_of, total_before, total_after, crossings_of}
use Rattle.bench.specs.Promises.{Judges}
use Rattle.bench.specs.Laws.{Apart, VerdictRight}
use Rattle.bench.specs.Verdicts.{Judgement, Found, Lent, Leaves, judge_found, bench_checked, broken, verdict_of}
use Rattle.player.specs.Calls.{PlayerCall, PlayerStrips}
use Rattle.player.specs.Scripts.{played}
use Rattle.player.specs.Whole.{JudgedFor, with_answers, VerdictTrue, CrossingsTrue, LogTrue}
use Rattle.player.proofs.Books.{front-means}
use Rattle.player.proofs.Logs.{logs_true}
use Rattle.player.proofs.Scripts.{scripts_logged}

-- a verdict by what is found
abbrev pub verdict_on : {A : Type 0} → (List ℕ → A) → (List ℕ → A) → Result (Option (ℕ × List ℕ)) Refusal → Result (Judgement A) Refusal
verdict_on now later found = and_then found (λ f. Ok (verdict_of (option_map (broken now later) f)))

-- what is found where there is room for the answers, what is said and what is left
pub record Told {C : Type 0} {K : Kind C} (b : Bench K) (found : Found) (said : Result (Judgement K.group.Carrier) Refusal) (old new : Lent C) : Type 0 where
  pub answer : said ≡ verdict_on (total_before b) (total_after b) found
  pub left : Leaves K found (crossings_of b) old new
  pub right : VerdictRight b found

pub judged_for : {C H B S : Type 0} {K : Kind C} (n room : ℕ) (b : Bench K) (old : Lent C) (result : Result (Verdict C H B) (Refused S)) (new : Lent C) → JudgedFor n room b old result new →
    Told b (with_answers n room (judge_found b (length old.crossings) (length old.ring))) (judge_said K result) old new
judged_for {C} {H} {B} {S} {K} n room b old result new judged = go (nat_le n room) judged
  where
    go : (t : Bool) → MatchBool t (Judges b old result new) ((judge_said K result ≡ Err (refused_at ShortStrip 0)) × (new ≡ old)) →
        Told b (and_then (tested ((t, ShortStrip) ∷ [])) (λ _. judge_found b (length old.crossings) (length old.ring))) (judge_said K result) old new
    go true j = record { answer = j.answer; left = j.left; right = j.right }
    go false j = record {
      answer = j.0;
      left = record { crossings = (refl, ap (λ s. s.crossings) j.1); ring = ap (λ s. s.ring) j.1 };
      right = tt;
    }

-- a table of crossings that is the only one, by another that has the same at each word
only_same : (G : Group) (D : List ℕ → G.Carrier) (z q m : ℕ) (J T : List ℕ → G.Carrier) → z < q → ((v : List ℕ) → Word q (m - 1) v → T v ≡ J v) →
    OnlyTable G D z q m J → OnlyTable G D z q m T
only_same G D z q m J T some same only = (
  (λ w is.
      let first : Word q (m - 1) (take (m - 1) w) = (length-take-le (m - 1) w (omega (arith, is.0)), letters-take q (m - 1) w is.1) in
      let last : Word q (m - 1) (drop 1 w) = (omega (arith, is.0, length-drop 1 w), letters-drop q 1 w is.1) in
      only.0 w is ∙ sym (ap₂ (minus G) (same (take (m - 1) w) first) (same (drop 1 w) last))),
  same (repeated z (m - 1)) (repeated-word q z (m - 1) some) ∙ only.1,
  λ S balances zero v is. only.2 S balances zero v is ∙ sym (same v is),
)

module _ {C : Type 0} (K : Kind C) (r : Local) (d : Weights K.group.Carrier) (lawful : Lawful r) where
  abbrev verdict : Result (Option (ℕ × List ℕ)) Refusal → Result (Judgement K.group.Carrier) Refusal
  verdict = verdict_on (total K.group d) (λ c. total K.group d (next r c))

  pub verdict_true : (found : Result (Option (ℕ × List ℕ)) Refusal) (ring old : List ℕ) → VerdictRight (bench_of K r d) found → ring ≡ at_front (ring_written found) old →
      VerdictTrue (bench_of K r d) (verdict found) ring
  verdict_true (Ok None) ring old right e = right.0
  verdict_true (Ok (Some f)) ring old right e =
      subst (Apart r.q (2 * (r.n + d.k) - 3) (λ c. total K.group d (next r c)) (total K.group d))
      (sym (ap (take (length f.1)) e ∙ take_at f.1 (drop (length f.1) old) (length f.1) refl)) right
  verdict_true (Err f) ring old right e = tt

  -- the strip of crossings at a word
  strip_at : (old new : List C) → FrontMeans K (crossings K padding (rule_label_list K.group r d)) old new → (v : List ℕ) → Word r.q (r.n + d.k - 1 - 1) v →
      get_or (map K.means new) (code r.q v) K.group.zero ≡ J K padding (rule_label_list K.group r d) v
  strip_at old new fronts v is =
      let label = rule_label_list K.group r d in
      let m : ℕ = label.m - 1 in
      let xs = crossings K padding label in
      let at : ℕ → K.group.Carrier = λ c. J K padding label (word r.q m c) in
      let size : length xs ≡ r.q ^ m = length-table (r.q ^ m) at in
      let inside : code r.q v < r.q ^ m = code_lt r.q m v is in
      let sizes = lawful.sizes in
      ap (λ t. get_or t (code r.q v) K.group.zero) (front-means K xs (r.q ^ m) old new fronts size)
      ∙ get_or_append_left xs (drop (r.q ^ m) (map K.means old)) K.group.zero (code r.q v) (omega (arith, size, inside))
      ∙ get_or-table (r.q ^ m) at K.group.zero (code r.q v) inside
      ∙ ap (J K padding label) (word-code r.q (omega (arith, sizes.0)) m v is)

  pub crossings_true : (found : Result (Option (ℕ × List ℕ)) Refusal) (old new : List C) → VerdictRight (bench_of K r d) found →
      FrontMeans K (unless_refused found (crossings K padding (rule_label_list K.group r d))) old new → CrossingsTrue (bench_of K r d) (verdict found) (map K.means new)
  crossings_true (Ok None) old new right fronts =
      let sizes = lawful.sizes in
      only_same K.group (rule_label K.group r d) padding r.q (r.n + d.k - 1) (J K padding (rule_label_list K.group r d)) (λ v. get_or (map K.means new) (code r.q v) K.group.zero)
      (omega (arith, sizes.0)) (strip_at old new fronts) right.1
  crossings_true (Ok (Some f)) old new right fronts = tt
  crossings_true (Err f) old new right fronts = tt

  pub log_true : Weighed d → bench_checked (bench_of K r d) ≡ Ok tt → (found : Result (Option (ℕ × List ℕ)) Refusal) (script : List PlayerCall) (handed : PlayerStrips K.group.Carrier) →
      VerdictRight (bench_of K r d) found → LogTrue (bench_of K r d) (verdict found) script handed
  log_true weighed passed (Ok None) script handed right =
      let whole = scripts_logged K r d handed script in
      (whole, logs_true K r d lawful weighed passed right.0 (played K r d handed script).log whole)
  log_true weighed passed (Ok (Some f)) script handed right = tt
  log_true weighed passed (Err f) script handed right = tt

-- what was judged, where there is room for the answers
module _ {C H B S : Type 0} {K : Kind C} (n room : ℕ) (b : Bench K) (lawful : Lawful b.rule) (old : Lent C) (result : Result (Verdict C H B) (Refused S)) (new : Lent C)
    (judged : JudgedFor n room b old result new) where
  told : Told b (with_answers n room (judge_found b (length old.crossings) (length old.ring))) (judge_said K result) old new
  told = judged_for n room b old result new judged

  pub verdict_told : VerdictTrue b (judge_said K result) new.ring
  verdict_told = subst (λ j. VerdictTrue b j new.ring) (sym told.answer) (verdict_true K b.rule b.density lawful _ new.ring old.ring told.right told.left.ring)

  pub crossings_told : CrossingsTrue b (judge_said K result) (map K.means new.crossings)
  crossings_told =
      subst (λ j. CrossingsTrue b j (map K.means new.crossings)) (sym told.answer) (crossings_true K b.rule b.density lawful _ old.crossings new.crossings told.right told.left.crossings)

  pub log_told : Weighed b.density → bench_checked b ≡ Ok tt → (script : List PlayerCall) (handed : PlayerStrips K.group.Carrier) → LogTrue b (judge_said K result) script handed
  log_told weighed passed script handed = subst (λ j. LogTrue b j script handed) (sym told.answer) (log_true K b.rule b.density lawful weighed passed _ script handed told.right)
