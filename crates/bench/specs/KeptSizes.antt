-- Rules and densities with the sizes that a label keeps of them. Assumes nothing.
use Rattle.std.proofs.Common.{subst}
use Rattle.std.specs.Prelude.{◌≡◌, ℕ, ◌+◌, ◌-◌, ◌^◌, ◌<◌, ◌≤◌, List, slice_index}
use Rattle.fault.specs.Limits.{most_words}
use Rattle.automaton.specs.declared.word_set.WordSet.{WordSet}
use Rattle.automaton.specs.Words.{code, word}
use Rattle.automaton.specs.Tables.{length-table}
use Rattle.automaton.specs.Meanings.{Local, Weights, DensityLimits}
use Rattle.criterion.specs.Labelled.{Labelled}
use Rattle.bench.specs.declared.sizes.RuleSizes.{RuleSizes}
use Rattle.bench.specs.declared.sizes.TwoSizes.{TwoSizes}
use Rattle.bench.specs.Labels.{next_letters, listed}

-- a rule or a density with the sizes that a label keeps
abbrev pub sized_rule : RuleSizes → Local → Local
sized_rule s r = record { q = s.words.q; n = s.n; l = s.l; answers = r.answers }

abbrev pub sized_density : {A : Type 0} → RuleSizes → Weights A → Weights A
sized_density s d = record { q = s.words.q; k = s.k; charges = d.charges }

abbrev pub first_sized : {A : Type 0} → TwoSizes → Weights A → Weights A
first_sized s d = record { q = s.words.q; k = s.first; charges = d.charges }

abbrev pub second_sized : {A : Type 0} → TwoSizes → Weights A → Weights A
second_sized s d = record { q = s.words.q; k = s.second; charges = d.charges }

-- the sizes are those of a rule and a density, which have one alphabet
abbrev pub SizesOf : {A : Type 0} → RuleSizes → Local → Weights A → Type 0
SizesOf s r d = (s.words.q ≡ r.q) × (s.n ≡ r.n) × (s.l ≡ r.l) × (s.k ≡ d.k) × (s.words.q ≡ d.q)

abbrev pub TwoSizesOf : {A : Type 0} → TwoSizes → Weights A → Weights A → Type 0
TwoSizesOf s d e = (s.words.q ≡ d.q) × (s.first ≡ d.k) × (s.second ≡ e.k) × (s.words.q ≡ e.q)

pub listed-labelled : {A : Type 0} (q m : ℕ) (d : List ℕ → A) → DensityLimits q m → q ^ m ≤ most_words → Labelled (listed q m d)
listed-labelled q m d sizes few = record { sizes = sizes; few = few; each = length-table (q ^ m) (λ c. d (word q m c)) }

-- a label on these words has a charge for each
pub words-labelled : {A : Type 0} (w : WordSet) (m : ℕ) → w.m ≡ m → (d : List ℕ → A) → Labelled (listed w.q m d)
words-labelled w m e d = listed-labelled w.q m d (subst (DensityLimits w.q) e w.sizes) (subst (λ n. w.q ^ n ≤ most_words) e w.few)

-- the code of the next letters of the word with a code
abbrev pub next_word : RuleSizes → Local → ℕ → ℕ
next_word s r c = code s.words.q (next_letters (sized_rule s r) s.k (word s.words.q (s.n + s.k - 1) c))

-- the first n entries of a strip are the codes of the next letters of the first n words
abbrev pub KnowsNext : RuleSizes → Local → ℕ → List ℕ → Type 0
KnowsNext s r n strip = (c : ℕ) → c < n → slice_index strip c ≡ next_word s r c
