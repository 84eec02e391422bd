use Rattle.std.proofs.Common.{◌≡◌, ◌≤◌, length, get_or, ℤ, pos, neg_ℤ, Some, sym, ap, ◌∙◌, arith, ltb-false}
use Rattle.std.specs.Option.{option_map}
use Rattle.console.proofs.Digits.{signed-minus, negated}
use Rattle.console.proofs.number.read_signed.Goals as goal

pub returns-in_err-read_number-in-45 : goal.returns-in_err-read_number-in-45
returns-in_err-read_number-in-45 c =
    let w = c.args.word.now in
    let some : 1 ≤ length w = omega (arith, ltb-false) in
    let minus : get_or w 0 0 ≡ 45 = omega arith in
    c.from_residual.ensures ∙ sym (signed-minus w some minus ∙ ap (option_map (λ v. neg_ℤ (pos v))) (sym c.in_err-read_number-in-45.ensures.value))

pub returns-in_ok-read_number-in-45 : goal.returns-in_ok-read_number-in-45
returns-in_ok-read_number-in-45 c =
    let w = c.args.word.now in
    let some : 1 ≤ length w = omega (arith, ltb-false) in
    let minus : get_or w 0 0 ≡ 45 = omega arith in
    ap (λ (z : ℤ). Some z) (negated c.in_ok-read_number-in-45.field-0 c.in_ok-read_number-in-45.ensures.bound)
    ∙ sym (signed-minus w some minus ∙ ap (option_map (λ v. neg_ℤ (pos v))) (sym c.in_ok-read_number-in-45.ensures.value))
