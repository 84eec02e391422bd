-- What the bench's verdicts say of rings. Assumes nothing.
use Rattle.std.specs.Prelude.{◌≡◌, ℕ, ◌+◌, ◌-◌, ◌*◌, ◌^◌, ◌<◌, ◌≤◌, max, ◌↔◌, List, map, length, ℤ, pos, ◌+ℤ◌, neg_ℤ, Some, None, Ok, Err, Option, Result, ◌≢◌}
use Rattle.std.proofs.Math.IntN.{+ℤ_assoc, +ℤ_comm, +ℤ_idl, +ℤ_invr}
use Rattle.fault.specs.Limits.{most_window, most_width}
use Rattle.fault.specs.Refusals.{Refusal}
use Rattle.charge.specs.Groups.{Group, Kind}
use Rattle.charge.specs.Kinds.{voice_group, signed}
use Rattle.charge.specs.Residues.{Below}
use Rattle.automaton.specs.Words.{Letters}
use Rattle.automaton.specs.Meanings.{Local, Weights, next, total}
use Rattle.automaton.specs.Ranges.{InRange}
use Rattle.criterion.specs.Balance.{OnlyTable}
use Rattle.criterion.specs.Search.{padding, J}
use Rattle.bench.specs.Labels.{rule_label, two_label, two_label_list}
use Rattle.bench.specs.Benches.{Bench, total_before, total_after, label_of}

-- A and B agree on the rings of every length, of letters below q
abbrev pub Agree : {X : Type 0} → ℕ → (List ℕ → X) → (List ℕ → X) → Type 0
Agree q A B = (c : List ℕ) → 1 ≤ length c → Letters q c → A c ≡ B c

-- no ring of any length changes its total in a step
abbrev pub KeepsTotal : (G : Group) → Local → Weights G.Carrier → Type 0
KeepsTotal G r d = Agree r.q (λ c. total G d (next r c)) (total G d)

-- no ring of any length has two totals
abbrev pub SameTotals : (G : Group) → Weights G.Carrier → Weights G.Carrier → Type 0
SameTotals G d e = Agree d.q (total G d) (total G e)

-- a ring of at most `most` cells on which A and B do not agree
abbrev pub Apart : {X : Type 0} → ℕ → ℕ → (List ℕ → X) → (List ℕ → X) → List ℕ → Type 0
Apart q most A B c = (1 ≤ length c) × (length c ≤ most) × Letters q c × (A c ≢ B c)

-- What the type of a bench says of its rings: none changes its total in a step, or some ring does, of at most
-- 2 (n + k) - 3 cells. Each is the bare fact, without its proof.
abbrev pub NoneChanges : (G : Group) → Local → Weights G.Carrier → Type 0
NoneChanges G r d = ∥ KeepsTotal G r d ∥₁

abbrev pub SomeChanges : (G : Group) → Local → Weights G.Carrier → Type 0
SomeChanges G r d = ∥ ((c : List ℕ) × Apart r.q (2 * (r.n + d.k) - 3) (λ c. total G d (next r c)) (total G d) c) ∥₁

-- what is known of a bench once the break is found, or none
abbrev pub KnownBy : {X C : Type 0} {K : Kind C} → Bench K → Option X → Type 0
KnownBy {X} {C} {K} b None = NoneChanges K.group b.rule b.density
KnownBy {X} {C} {K} b (Some x) = SomeChanges K.group b.rule b.density

-- What is found, if nothing is refused: under "holds" no ring changes its total, and the crossings are the only table
-- that balances; otherwise the ring shown changes its total, and has at most 2 (n + k) - 3 cells.
module _ {C : Type 0} {K : Kind C} (b : Bench K) where
  abbrev pub VerdictRight : Result (Option (ℕ × List ℕ)) Refusal → Type 0
  VerdictRight (Ok None) =
      KeepsTotal K.group b.rule b.density
      × OnlyTable K.group (rule_label K.group b.rule b.density) padding b.rule.q (b.rule.n + b.density.k - 1) (J K padding (label_of b))
  VerdictRight (Ok (Some f)) = Apart b.rule.q (2 * (b.rule.n + b.density.k) - 3) (total_after b) (total_before b) f.1
  VerdictRight (Err f) = Unit {0}

-- The same for two densities: if they agree, no ring has two totals; otherwise the ring shown has.
module _ {C : Type 0} (K : Kind C) (d e : Weights K.group.Carrier) where
  abbrev pub ComparisonRight : Result (Option (ℕ × List ℕ)) Refusal → Type 0
  ComparisonRight (Ok None) =
      SameTotals K.group d e
      × OnlyTable K.group (two_label K.group d e) padding d.q (max d.k e.k) (J K padding (two_label_list K.group d e))
  ComparisonRight (Ok (Some f)) = Apart d.q (2 * max d.k e.k - 1) (total K.group d) (total K.group e) f.1
  ComparisonRight (Err f) = Unit {0}

-- whole numbers without bounds
abbrev pub integers : Group
integers = record {
  Carrier = ℤ;
  zero = pos 0;
  add = ◌+ℤ◌;
  neg = neg_ℤ;
  assoc = +ℤ_assoc;
  comm = +ℤ_comm;
  unit = +ℤ_idl;
  cancel = +ℤ_invr;
}

-- a density in voices, its charges read as whole numbers
abbrev pub whole : Weights (Below (2 ^ 64)) → Weights ℤ
whole d = record { q = d.q; k = d.k; charges = map signed d.charges }

-- with entries in range, what a verdict on voices says is true of whole numbers without bounds
abbrev pub VerdictWhole : Type 0
VerdictWhole = (r : Local) (d : Weights (Below (2 ^ 64))) → 0 < r.q → r.l < r.n → r.n ≤ most_window → 1 ≤ d.k → d.k ≤ most_width → InRange d →
    KeepsTotal voice_group r d ↔ KeepsTotal integers r (whole d)

-- and what a comparison in voices says
abbrev pub ComparisonWhole : Type 0
ComparisonWhole = (d e : Weights (Below (2 ^ 64))) → 0 < d.q → 1 ≤ d.k → d.k ≤ most_width → 1 ≤ e.k → e.k ≤ most_width → InRange d → InRange e →
    SameTotals voice_group d e ↔ SameTotals integers (whole d) (whole e)
