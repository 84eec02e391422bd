-- How the largest number is spelt, by what is read: to compute it would take as many steps as the number. Assumes nothing.
use Rattle.std.proofs.Common.{◌≡◌, ℕ, [], ◌∷◌, Ok, sym, ap, ◌∙◌, lit<}
use Rattle.std.proofs.lemmas.List.{append-nil}
use Rattle.preset.specs.Numbers.{spell}
use Rattle.preset.proofs.NumberLaws.{number_spells_back}

pub spelt_largest : (v : ℕ) → v ≡ 4294967295 → spell v ≡ 143 ∷ 255 ∷ 255 ∷ 255 ∷ 127 ∷ []
spelt_largest v e =
    let back = number_spells_back 0 (143 ∷ 255 ∷ 255 ∷ 255 ∷ 127 ∷ []) v [] (lit< tt, (lit< tt, (lit< tt, (lit< tt, (lit< tt, tt))))) (ap (λ w. Ok (w, [])) (sym e)) in
    sym (back.1 ∙ append-nil (spell v))
