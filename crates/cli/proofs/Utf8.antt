-- Which words are UTF-8. Assumes nothing.
use Rattle.std.proofs.Common.{◌≡◌, ℕ, true, false, List, length, subst, eq-eqb, ne_eqb, arith}
use Rattle.std.proofs.lemmas.List.{take_all}
use Rattle.std.proofs.lemmas.Str.{utf8_valid_len-IsUtf8}
use Rattle.std.specs.Str.{IsUtf8, IsValidUpTo}
use Rattle.std.specs.Str.Lossy.{utf8_valid_len}
use Rattle.cli.specs.ShownArguments.{is_utf8}

pub utf8_valid : (bs : List ℕ) → IsUtf8 bs → is_utf8 bs ≡ true
utf8_valid bs h = eq-eqb (utf8_valid_len bs) (length bs) (utf8_valid_len-IsUtf8 bs h)

pub utf8_invalid : (bs : List ℕ) (n : ℕ) → (IsUtf8 bs → ⊥) → IsValidUpTo bs n → n ≡ utf8_valid_len bs → is_utf8 bs ≡ false
utf8_invalid bs n not valid e = ne_eqb (utf8_valid_len bs) (length bs) (λ h. not (subst IsUtf8 (take_all n bs (omega (arith, e, h))) valid.front))
