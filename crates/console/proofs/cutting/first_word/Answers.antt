use Rattle.std.proofs.Common.{◌≡◌, length, sym, ap, ◌∙◌, true-eqb, false-eqb}
use Rattle.console.specs.Cutting.{leading, past}
use Rattle.console.specs.declared.cutting.Class.TheVariants.{Blank, NotBlank}
use Rattle.console.proofs.Cuts.{words_none, words-some, words_shorter}
use Rattle.console.proofs.cutting.first_word.Goals as goal

pub returns-then-is_empty : goal.returns-then-is_empty
returns-then-is_empty c =
    let f = c.cut-word.ensures.leading ∙ ap (leading NotBlank) c.cut.ensures.past in
    record { words = words_none c.args.line.now (sym (ap length f) ∙ true-eqb _ _ c.if-is_empty.ensures); shorter = tt }

pub returns-else-is_empty : goal.returns-else-is_empty
returns-else-is_empty c =
    let f = c.cut-word.ensures.leading ∙ ap (leading NotBlank) c.cut.ensures.past in
    let r = c.cut-word.ensures.past ∙ ap (past NotBlank) c.cut.ensures.past in
    let some : length (leading NotBlank (past Blank c.args.line.now)) ≡ 0 → ⊥ = λ e. false-eqb _ _ c.if-is_empty.ensures (ap length f ∙ e) in
    let w = words-some c.args.line.now some in
    record { words = rw (f, r) w; shorter = rw r (words_shorter c.args.line.now some) }
