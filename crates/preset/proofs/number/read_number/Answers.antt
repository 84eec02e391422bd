use Rattle.std.proofs.Common.{get_or, sym, arith, ltb-false, ltb-true}
use Rattle.preset.proofs.NumberLaws.{refusals, number_spells_back}
use Rattle.preset.proofs.Reading.{number-long, tail_shorter, turn-cut, turn_more, turn-large, turn_last}
use Rattle.preset.proofs.number.read_number.Goals as goal

pub returns-in-128-clause-refusals : goal.returns-in-128-clause-refusals
returns-in-128-clause-refusals c = refusals

pub returns-in-128-clause-spells_back : goal.returns-in-128-clause-spells_back
returns-in-128-clause-spells_back c = number_spells_back

pub returns-in_default-rest : goal.returns-in_default-rest
returns-in_default-rest c =
    let inv = c.loop.invariant in
    record { answer = rw c.at-in_default-rest.ensures (turn-cut c.args.input.now c.loop.rest.now c.loop.counter c.loop.value inv.0 inv.2 inv.3 c.args.place inv.5 c.loop-test.true (omega (arith, ltb-true))); rest = tt; refusals = refusals; spells_back = number_spells_back }

pub returns-then-value-gt-MOST_NUMBER : goal.returns-then-value-gt-MOST_NUMBER
returns-then-value-gt-MOST_NUMBER c =
    let inv = c.loop.invariant in
    record { answer = rw c.at-then-value-gt-MOST_NUMBER.ensures (turn-large c.args.input.now c.loop.rest.now c.loop.counter c.loop.value inv.0 inv.2 inv.3 (omega (arith, ltb-false)) c.args.place (ltb-true (get_or c.loop.rest.now 0 0) 128 (sym c.if-ends_number.ensures)) c.if-value-gt-MOST_NUMBER.true); rest = tt; refusals = refusals; spells_back = number_spells_back }

pub returns-then-ends_number : goal.returns-then-ends_number
returns-then-ends_number c =
    let inv = c.loop.invariant in
    record {
      answer = turn_last c.args.input.now c.loop.rest.now c.loop.counter c.loop.value inv.0 inv.2 inv.3 (omega (arith, ltb-false)) c.args.place inv.5 c.loop-test.true (ltb-true (get_or c.loop.rest.now 0 0) 128 (sym c.if-ends_number.ensures)) c.if-value-gt-MOST_NUMBER.false;
      rest = tail_shorter c.args.input.now c.loop.rest.now c.loop.counter inv.0 (omega (arith, ltb-false));
      refusals = refusals;
      spells_back = number_spells_back;
    }

pub loop-preserved : goal.loop-preserved
loop-preserved c =
    let inv = c.loop.invariant in
    let more = turn_more c.args.input.now c.loop.rest.now c.loop.counter c.loop.value inv.0 inv.2 inv.3 (omega (arith, ltb-false)) inv.4 (ltb-false (get_or c.loop.rest.now 0 0) 128 (sym c.if-ends_number.ensures)) in
    (more.0, more.1, more.2, more.3, more.4, inv.5)

pub returns : goal.returns
returns c = record { answer = rw c.at-2.ensures (sym (number-long c.args.place c.args.input.now (omega arith))); rest = tt; refusals = refusals; spells_back = number_spells_back }
