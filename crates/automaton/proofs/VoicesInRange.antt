-- The charges of a density that is made in voices are in the range of an entry. Assumes nothing.
use Rattle.std.proofs.Common.{◌≡◌, ℕ, zero, suc, ◌^◌, Bool, true, false, cond, List, [], ◌∷◌, map, get_or, inl, inr, sym, subst, arith}
use Rattle.std.specs.Prelude.{◌==◌}
use Rattle.std.proofs.Math.Decide.{dec_lt}
use Rattle.std.specs.List.{list_all}
use Rattle.std.proofs.lemmas.Bool.{and_parts, or_cases}
use Rattle.std.proofs.lemmas.List.{get_or_past}
use Rattle.charge.specs.Kinds.{voice_group, voices, signed}
use Rattle.charge.specs.Ranges.{voices_range}
use Rattle.charge.specs.Residues.{Below}
use Rattle.charge.specs.declared.voices.Voices.{Voices}
use Rattle.charge.proofs.Integers.{entry_in_range, zero_in_range}
use Rattle.automaton.specs.Words.{table}
use Rattle.automaton.specs.Ranges.{entry_or_zero}
use Rattle.automaton.specs.Tables.{length-table, get_or-table}
use Rattle.automaton.specs.Meant.{TablesInRange, PatternsInRange}

-- the whole number that a residue is read as is in the range of an entry
abbrev Small : Below (2 ^ 64) → Type 0
Small x = voices_range (signed x) ≡ true

-- what is small at each place of a table is small past its end too
table_small : (n : ℕ) (f : ℕ → Below (2 ^ 64)) → ((c : ℕ) → Small (f c)) → (i : ℕ) → Small (get_or (table n f) i voice_group.zero)
table_small n f small i =
    elim (dec_lt i n) [
      | yes h ↦ subst Small (sym (get_or-table n f voice_group.zero i h)) (small i)
      | no h ↦ subst Small (sym (get_or_past (table n f) i voice_group.zero (omega (arith, length-table n f)))) zero_in_range
    ]

entries_small : (xs : List Voices) → list_all voices.entry xs ≡ true → (i : ℕ) → Small (get_or (map voices.means xs) i voice_group.zero)
entries_small [] e i = zero_in_range
entries_small (x ∷ xs) e zero = entry_in_range x (and_parts _ _ e).0
entries_small (x ∷ xs) e (suc i) = entries_small xs (and_parts _ _ e).1 i

pub tables_in_range : TablesInRange
tables_in_range t = table_small (t.words.q ^ t.words.m) _ (entries_small t.entries.now t.allowed)

pattern_small : (x : Voices) → entry_or_zero voices x ≡ true → Small (voices.means x)
pattern_small x e =
    elim (or_cases (voices.entry x) _ e) [
      | inl entry ↦ entry_in_range x entry
      | inr zeros ↦ subst Small (sym ((voices.decides (voices.means x) voice_group.zero).0 zeros)) zero_in_range
    ]

one_small : (x : Below (2 ^ 64)) (b : Bool) → Small x → Small (cond b x voice_group.zero)
one_small x true small = small
one_small x false small = zero_in_range

pub patterns_in_range : PatternsInRange
patterns_in_range t =
    table_small (t.words.q ^ t.words.m) _ (λ c. one_small (voices.means t.charge) (c == t.pattern) (pattern_small t.charge t.allowed))
