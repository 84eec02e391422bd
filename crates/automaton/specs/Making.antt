-- Rules and densities as they are made, and when they are refused. Assumes nothing.
use Rattle.std.specs.Prelude.{ℕ, suc, ◌+◌, ◌-◌, ◌*◌, ◌^◌, ◌<◌, Bool, cond, List, [], ◌∷◌, map, length, take, Ok, Err, Result, ◌==◌, nat_le, nat_lt, slice_index, slice_index_or}
use Rattle.std.specs.Borrow.{Bor}
use Rattle.fault.specs.declared.Fault.{Fault}
use Rattle.fault.specs.declared.Stop.{Stop}
use Rattle.fault.specs.declared.Stop.TheVariants.{BadAlphabet, BadWindow, BadReach, BadWidth, TooManyWords, BadLength, ShortStrip, BadLetter, BadEntry}
use Rattle.fault.specs.Answers.{and_then}
use Rattle.fault.specs.Checks.{tested, each_fits}
use Rattle.fault.specs.Limits.{least_letters, most_letters, most_window, most_width, most_cells, within, few_words}
use Rattle.fault.specs.Refusals.{Refusal, refused_at, refusal}
use Rattle.charge.specs.Groups.{Kind}
use Rattle.automaton.specs.Words.{word, table}
use Rattle.automaton.specs.Meanings.{Local, Weights}

-- the rule whose answers stand in a table of letters, each at the place of its word's code
abbrev pub lookup_rule : (ℕ → ℕ → ℕ → ℕ) → ℕ → ℕ → ℕ → List ℕ → Local
lookup_rule place q n l letters = record { q = q; n = n; l = l; answers = table (q ^ n) (λ c. slice_index letters (place q n c)) }

-- the place of each word of n letters below q is below `places`
abbrev pub LooksBelow : ℕ → (ℕ → ℕ → ℕ → ℕ) → ℕ → ℕ → Type 0
LooksBelow places place q n = (c : ℕ) → c < q ^ n → place q n c < places

-- in the order of the codes
abbrev pub by_code : ℕ → ℕ → ℕ → ℕ
by_code q n c = c

abbrev pub table_rule : ℕ → ℕ → ℕ → List ℕ → Local
table_rule = lookup_rule by_code

-- the sum of a word's letters
abbrev pub letter_sum : List ℕ → ℕ
letter_sum [] = 0
letter_sum (a ∷ w) = a + letter_sum w

-- at the sum of the window's letters
abbrev pub by_sum : ℕ → ℕ → ℕ → ℕ
by_sum q n c = letter_sum (word q n c)

abbrev pub sum_rule : ℕ → ℕ → ℕ → List ℕ → Local
sum_rule = lookup_rule by_sum

-- how many sums n letters have
abbrev pub sum_count : ℕ → ℕ → ℕ
sum_count q n = n * (q - 1) + 1

-- the density whose charges stand in a table, in the order of the codes
abbrev pub table_density : {C : Type 0} → (K : Kind C) → ℕ → ℕ → List C → Weights K.group.Carrier
table_density K q k entries = record { q = q; k = k; charges = table (q ^ k) (λ c. slice_index_or (map K.means entries) c K.group.zero) }

-- the density that gives one charge on the word of one code, and zero on all others
abbrev pub pattern_density : {C : Type 0} → (K : Kind C) → ℕ → ℕ → ℕ → C → Weights K.group.Carrier
pattern_density K q k pattern charge = record { q = q; k = k; charges = table (q ^ k) (λ c. cond (c == pattern) (K.means charge) K.group.zero) }

-- what there is before anything is made: the rule of two letters and one cell that answers 0, and the density of
-- two letters that weigh nothing
abbrev pub zero_rule : Local
zero_rule = record { q = 2; n = 1; l = 0; answers = 0 ∷ 0 ∷ [] }

abbrev pub zero_density : {C : Type 0} → (K : Kind C) → Weights K.group.Carrier
zero_density K = record { q = 2; k = 1; charges = K.group.zero ∷ K.group.zero ∷ [] }

-- what sizes are held to, in the order of the stop codes
abbrev pub rule_tests : ℕ → ℕ → ℕ → List (Bool × Stop)
rule_tests q n l =
    (within least_letters (suc most_letters) q, BadAlphabet)
    ∷ (within 1 (suc most_window) n, BadWindow)
    ∷ (nat_lt l n, BadReach)
    ∷ []

abbrev pub density_tests : ℕ → ℕ → List (Bool × Stop)
density_tests q k =
    (within least_letters (suc most_letters) q, BadAlphabet)
    ∷ (within 1 (suc most_width) k, BadWidth)
    ∷ []

-- how many words of m letters there are, unless they are too many
abbrev pub words_counted : ℕ → ℕ → Result ℕ Refusal
words_counted q m = cond (few_words q m) (Ok (q ^ m)) (Err (refused_at TooManyWords 0))

-- the first `need` items of a strip, where there are as many and each is allowed
abbrev pub taken : {X : Type 0} → (X → Bool) → Stop → ℕ → List X → Result (List X) Refusal
taken allows stop need items =
    cond (nat_le need (length items))
    (and_then (each_fits allows stop 0 (take need items)) (λ _. Ok (take need items)))
    (Err (refused_at ShortStrip 0))

-- a lent part of a strip as a list
abbrev pub lent_items : {X : Type 0} → Result (Bor (List X)) Fault → Result (List X) Refusal
lent_items (Ok s) = Ok s.now
lent_items (Err f) = Err (refusal f)

-- the letters of a rule that takes `need` of them, or the refusal with the lowest code
abbrev pub rule_making : ℕ → ℕ → ℕ → ℕ → List ℕ → Result (List ℕ) Refusal
rule_making q n l need letters =
    and_then (tested (rule_tests q n l)) (λ _.
    and_then (words_counted q n) (λ _.
    taken (λ a. nat_lt a q) BadLetter need letters))

-- the entries of a density, likewise
abbrev pub table_making : {C : Type 0} → Kind C → ℕ → ℕ → List C → Result (List C) Refusal
table_making K q k entries =
    and_then (tested (density_tests q k)) (λ _.
    and_then (words_counted q k) (λ count.
    taken K.entry BadEntry count entries))

-- the letters of a pattern, likewise; its charge is tested last
abbrev pub pattern_making : {C : Type 0} → Kind C → ℕ → ℕ → List ℕ → C → Result (List ℕ) Refusal
pattern_making K q k pattern charge =
    and_then (tested (density_tests q k)) (λ _.
    and_then (words_counted q k) (λ _.
    and_then (taken (λ a. nat_lt a q) BadLetter k pattern) (λ letters.
    cond (K.entry charge) (Ok letters) (Err (refused_at BadEntry 0)))))

-- a call that makes something of what it takes, or refuses
abbrev pub passes : {X : Type 0} → Result X Refusal → Result (Unit {0}) Refusal
passes r = and_then r (λ _. Ok tt)

-- an answer that is a charge, by what it means
abbrev pub charged : {C : Type 0} → (K : Kind C) → Result C Fault → Result K.group.Carrier Refusal
charged K (Ok x) = Ok (K.means x)
charged K (Err f) = Err (refusal f)

-- a ring of the right length, of letters below q, with a strip of `room` cells for its next one
abbrev pub ring_checked : ℕ → ℕ → List ℕ → Result (List ℕ) Refusal
ring_checked q room ring =
    cond (within 1 (suc most_cells) (length ring))
    (cond (nat_le (length ring) room)
    (and_then (each_fits (λ a. nat_lt a q) BadLetter 0 ring) (λ _. Ok ring))
    (Err (refused_at ShortStrip 0)))
    (Err (refused_at BadLength 0))
