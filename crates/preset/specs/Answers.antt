-- What a reader answers, and what it makes of a strip. Assumes nothing.
use Rattle.std.specs.Prelude.{ℕ, zero, suc, List, [], ◌∷◌, Ok, Err, Result}
use Rattle.std.specs.Borrow.{Bor}
use Rattle.fault.specs.declared.Fault.{Fault}
use Rattle.fault.specs.Answers.{and_then}
use Rattle.fault.specs.Refusals.{Refusal, refusal}

-- what was read with the bytes after it, or a refusal
abbrev pub Parse : Type 0 → Type 0
Parse X = Result (X × List ℕ) Refusal

-- a reader's answer as plain numbers and lists
abbrev pub parse_seen : {X : Type 0} → Result (X × Bor (List ℕ)) Fault → Parse X
parse_seen (Ok p) = Ok (p.0, p.1.now)
parse_seen (Err f) = Err (refusal f)

-- one thing after another, n of them
abbrev pub many : {X : Type 0} → (List ℕ → Parse X) → ℕ → List ℕ → Parse (List X)
many read zero bs = Ok ([], bs)
many read (suc n) bs = and_then (read bs) (λ p. and_then (many read n p.1) (λ r. Ok (p.0 ∷ r.0, r.1)))

-- the same answer where what is read is passed over
abbrev pub skipped : {X : Type 0} → Parse X → Parse (Unit {0})
skipped s = and_then s (λ p. Ok (tt, p.1))
