-- What whole numbers mean in voices: sums go to sums, and small numbers are told apart. Assumes nothing.
use Rattle.std.proofs.Common.{◌≡◌, ◌+◌, ◌-◌, ◌%◌, ◌^◌, ◌<◌, ◌≤◌, true, ℤ, pos, negsuc, ◌+ℤ◌, neg_ℤ, nat_abs, sym, refl, ap, ◌∙◌, arith, w64, SFits, to_z}
use borrow.Author.Differences.{up, down}
use borrow.Author.Gap.{read_sfits}
use lib.IntN.{+ℤ_invr}
use Rattle.std.proofs.lemmas.Int.{ints, of_z-to_z, to_z-of_z}
use Rattle.charge.specs.Kinds.{voice_group, voice_means, voices, signed}
use Rattle.charge.specs.declared.voices.Voices.{Voices}
use Rattle.charge.specs.Ranges.{voices_range}
use Rattle.charge.specs.Residues.{Below, below_eq}
use Rattle.charge.proofs.Sums.{neg_is}
use Rattle.charge.proofs.Wraps.{means-bits, wrapped_same}

-- the residue of a whole number by its parts above and below zero
means-parts : (z : ℤ) → (voice_means z).value ≡ (up z + (2 ^ 64 - down z % 2 ^ 64)) % 2 ^ 64
means-parts (pos n) = omega arith
means-parts (negsuc n) = omega arith

pub means-zero : voice_means (pos 0) ≡ voice_group.zero
means-zero = below_eq _ _ refl

pub means-add : (x y : ℤ) → voice_means (x +ℤ y) ≡ voice_group.add (voice_means x) (voice_means y)
means-add x y = below_eq _ _ (omega (arith, ints, means-parts (x +ℤ y), means-parts x, means-parts y))

pub means-neg : (x : ℤ) → voice_means (neg_ℤ x) ≡ voice_group.neg (voice_means x)
means-neg x = neg_is voice_group (voice_means x) (voice_means (neg_ℤ x)) (sym (means-add x (neg_ℤ x)) ∙ ap voice_means (+ℤ_invr x) ∙ means-zero)

-- a residue read as a signed number means the residue
pub means-signed : (x : Below (2 ^ 64)) → voice_means (signed x) ≡ x
means-signed x = below_eq _ _ (means-bits (signed x) (read_sfits w64 x.value) ∙ of_z-to_z w64 x.value x.less)

small-fits : (z : ℤ) → nat_abs z < 2 ^ 63 → SFits w64 z
small-fits (pos n) h = record { sfits = h }
small-fits (negsuc n) h = record { sfits = omega arith }

-- two small numbers have one meaning only if they are equal
pub means_apart : (x y : ℤ) → nat_abs x < 2 ^ 63 → nat_abs y < 2 ^ 63 → voice_means x ≡ voice_means y → x ≡ y
means_apart x y a b e = wrapped_same x y (small-fits x a) (small-fits y b) e

range_small : (z : ℤ) → voices_range z ≡ true → nat_abs z ≤ 2 ^ 31
range_small (pos n) e = grind arith
range_small (negsuc n) e = grind arith

-- the size of a charge in the range of an entry
pub entry_small : (x : Below (2 ^ 64)) → voices_range (signed x) ≡ true → nat_abs (signed x) ≤ 2 ^ 31
entry_small x e = range_small (signed x) e

-- a number that fits is read back from its residue
signed-means : (z : ℤ) → SFits w64 z → signed (voice_means z) ≡ z
signed-means z f = ap (to_z w64) (means-bits z f) ∙ to_z-of_z w64 z f

-- a charge may be an entry exactly where what it means is in the range of one
pub entry-means : (v : Voices) → SFits w64 v.count → voices.entry v ≡ voices_range (signed (voices.means v))
entry-means v f = ap voices_range (sym (signed-means v.count f))

-- a charge that may be an entry means a number in the range of one
pub entry_in_range : (v : Voices) → voices.entry v ≡ true → voices_range (signed (voices.means v)) ≡ true
entry_in_range v e = sym (entry-means v (small-fits v.count (omega (arith, range_small v.count e)))) ∙ e

-- zero is in the range of an entry
pub zero_in_range : voices_range (signed voice_group.zero) ≡ true
zero_in_range = ap (λ x. voices_range (signed x)) (sym means-zero) ∙ ap voices_range (signed-means (pos 0) (small-fits (pos 0) (omega arith)))
