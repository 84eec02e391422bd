-- The label of a rule under a density, and the label of two densities. Assumes nothing.
use Rattle.std.specs.Prelude.{ℕ, ◌+◌, ◌-◌, ◌^◌, max, List, take, drop}
use Rattle.charge.specs.Groups.{Group, minus}
use Rattle.automaton.specs.Words.{word, table}
use Rattle.automaton.specs.Meanings.{Local, Weights, answer, weight}
use Rattle.criterion.specs.Labelled.{LabelList}

-- the k next letters of a word: the j-th is the answer for w(j) to w(j + n - 1)
abbrev pub next_letters : Local → ℕ → List ℕ → List ℕ
next_letters r k w = table k (λ j. answer r (take r.n (drop j w)))

-- on a word of n + k - 1 letters: the density on the k next letters less the density on w(l) to w(l + k - 1)
abbrev pub rule_label : (G : Group) → Local → Weights G.Carrier → List ℕ → G.Carrier
rule_label G r d w = minus G (weight G d (next_letters r d.k w)) (weight G d (take d.k (drop r.l w)))

-- the first density less the second, each on the word's leading letters
abbrev pub two_label : (G : Group) → Weights G.Carrier → Weights G.Carrier → List ℕ → G.Carrier
two_label G d e w = minus G (weight G d (take d.k w)) (weight G e (take e.k w))

-- a label as a list of charges, in the order of the codes of words of m letters
abbrev pub listed : {A : Type 0} → ℕ → ℕ → (List ℕ → A) → LabelList A
listed q m d = record { q = q; m = m; charges = table (q ^ m) (λ c. d (word q m c)) }

abbrev pub rule_label_list : (G : Group) → Local → Weights G.Carrier → LabelList G.Carrier
rule_label_list G r d = listed r.q (r.n + d.k - 1) (rule_label G r d)

abbrev pub two_label_list : (G : Group) → Weights G.Carrier → Weights G.Carrier → LabelList G.Carrier
two_label_list G d e = listed d.q (max d.k e.k) (two_label G d e)
