use Rattle.std.proofs.Common.{ℕ, ◌^◌, get_or, sym, ap, ◌∙◌, arith}
use Rattle.automaton.proofs.Rings.{get_or-table, table-past}
use Rattle.automaton.proofs.lookup.LookupTable.answer.Goals as goal

pub returns-then-code-self : goal.returns-then-code-self
returns-then-code-self c =
    let t = c.args.self in
    let w = t.words in
    let counted = w.counted in
    λ place is.
    c.letter_at.ensures
    ∙ ap (λ (s : ℕ). get_or t.letters.now s 0) is
    ∙ sym (get_or-table (w.q ^ w.m) (λ i. get_or t.letters.now (place w.q w.m i) 0) 0 c.args.code (omega arith))

pub returns-else-code-self : goal.returns-else-code-self
returns-else-code-self c =
    let t = c.args.self in
    let w = t.words in
    let counted = w.counted in
    λ place is. sym (table-past (w.q ^ w.m) (λ i. get_or t.letters.now (place w.q w.m i) 0) 0 c.args.code (omega arith))
