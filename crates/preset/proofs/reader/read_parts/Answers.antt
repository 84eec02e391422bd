use Rattle.std.proofs.Common.{length, Ok, sym, ap, ◌∙◌, arith, eqb-true}
use borrow.Author.Tests.{eqb-false}
use Rattle.fault.specs.Answers.{and_then, strip_after}
use Rattle.preset.specs.Presets.{Preset}
use Rattle.preset.proofs.Scanning.{whole_surplus, whole-done}
use Rattle.preset.proofs.reader.read_parts.Goals as goal

pub returns-then-not-is_empty : goal.returns-then-not-is_empty
returns-then-not-is_empty c =
    let found = c.in_ok-scan.ensures in
    let e = whole_surplus c.args.input.now c.in_ok-scan.scan found.0 c.args.letters.now c.args.entries.now found.1 found.2 (omega (arith, eqb-false (length c.in_ok-scan.scan.rest.bytes.now) 0 (sym c.if-not-is_empty.ensures))) in
    record {
      answer = rw (c.surplus.ensures, found.0.rest_whole) (sym (ap (λ r. and_then r (λ (p : Preset). Ok p.head)) e));
      letters = sym (ap (strip_after (λ p. p.letters) c.args.letters.now) e);
      entries = sym (ap (strip_after (λ p. p.entries) c.args.entries.now) e);
    }

pub returns : goal.returns
returns c =
    let found = c.in_ok-scan.ensures in
    let e = whole-done c.args.input.now c.in_ok-scan.scan found.0 c.args.letters.now c.args.entries.now found.1 found.2 (eqb-true (length c.in_ok-scan.scan.rest.bytes.now) 0 (sym c.if-not-is_empty.ensures)) in
    record { answer = sym e.0; letters = c.fill_strips.ensures.letters ∙ sym e.1; entries = c.fill_strips.ensures.entries ∙ sym e.2 }
