-- What an answer that passed or was refused says of its steps. Assumes nothing.
use Rattle.std.proofs.Common.{◌≡◌, ℕ, Bool, true, false, cond, Ok, Err, Result, sym, refl, ap, arith}
use Rattle.fault.specs.Refusals.{Refusal}
use Rattle.fault.specs.Answers.{and_then}

pub never : {X A F : Type 0} {x : A} {y : F} → ◌≡◌ {A = Result A F} (Err y) (Ok x) → X
never e = let z : ◌≡◌ {A = ℕ} 0 1 = cc in absurd (omega arith)

pub ok-is : {X F : Type 0} {x y : X} → ◌≡◌ {A = Result X F} (Ok x) (Ok y) → x ≡ y
ok-is e = cc

-- where a reading passed, each step of it did
pub and_ok : {X Y : Type 0} (a : Result X Refusal) (f : X → Result Y Refusal) (y : Y) → and_then a f ≡ Ok y → (x : X) × (a ≡ Ok x) × (f x ≡ Ok y)
and_ok (Ok x) f y e = (x, refl, e)
and_ok (Err r) f y e = never e

pub cond_ok : {X : Type 0} (b : Bool) (x : X) (f : Refusal) (y : X) → cond b (Ok x) (Err f) ≡ Ok y → (b ≡ true) × (x ≡ y)
cond_ok true x f y e = (refl, cc)
cond_ok false x f y e = never e

-- a test that did not refuse
pub holds : (b : Bool) (f : Refusal) {u : Unit {0}} → ◌≡◌ {A = Result (Unit {0}) Refusal} (Ok u) (cond b (Ok tt) (Err f)) → b ≡ true
holds true f e = refl
holds false f e = never (sym e)

pub pair_0 : {A B F : Type 0} {a c : A} {b d : B} → ◌≡◌ {A = Result (A × B) F} (Ok (a, b)) (Ok (c, d)) → a ≡ c
pair_0 {A} {B} {F} {a} {c} {b} {d} e = let p : ◌≡◌ {A = A × B} (a, b) (c, d) = cc in ap (λ (x : A × B). x.0) p

pub pair_1 : {A B F : Type 0} {a c : A} {b d : B} → ◌≡◌ {A = Result (A × B) F} (Ok (a, b)) (Ok (c, d)) → b ≡ d
pair_1 {A} {B} {F} {a} {c} {b} {d} e = let p : ◌≡◌ {A = A × B} (a, b) (c, d) = cc in ap (λ (x : A × B). x.1) p
