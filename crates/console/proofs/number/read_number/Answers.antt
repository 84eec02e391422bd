use Rattle.std.proofs.Common.{◌+◌, get_or, drop, sym, ◌∙◌}
use Rattle.std.proofs.lemmas.List.{at_drop_more, at_drop_all}
use Rattle.console.specs.Numbers.{digits_after}
use Rattle.console.proofs.Digits.{digit_more, digit_stops, number-some, digits_end}
use Rattle.console.proofs.number.read_number.Goals as goal

pub returns-in_err-value : goal.returns-in_err-value
returns-in_err-value c =
    let w = c.args.word.now in
    let i = c.loop-byte.byte-index in
    let step = at_drop_more (digits_after c.loop-byte.value) w i 0 c.loop-byte-test.true in
    let stop = digit_stops c.loop-byte.value (get_or w i 0) (drop (i + 1) w) c.in_err-value.ensures in
    let none = number-some w (sym c.if-is_empty.ensures) ∙ (c.loop-byte.invariant.0 ∙ (step ∙ stop)) in
    rw c.from_residual.ensures (record { value = sym none; bound = tt })

pub loop-byte-preserved : goal.loop-byte-preserved
loop-byte-preserved c =
    let w = c.args.word.now in
    let i = c.loop-byte.byte-index in
    let step = at_drop_more (digits_after c.loop-byte.value) w i 0 c.loop-byte-test.true in
    let more = digit_more c.loop-byte.value (get_or w i 0) (drop (i + 1) w) c.in_ok-value.value c.in_ok-value.ensures in
    (c.loop-byte.invariant.0 ∙ (step ∙ more.0), more.1)

pub returns : goal.returns
returns c =
    let w = c.args.word.now in
    let done = at_drop_all (digits_after c.loop-byte.value) w c.loop-byte.byte-index c.loop-byte-test.false in
    record { value = sym (number-some w (sym c.if-is_empty.ensures) ∙ (c.loop-byte.invariant.0 ∙ (done ∙ digits_end c.loop-byte.value c.loop-byte.invariant.1))); bound = c.loop-byte.invariant.1 }
