use Rattle.std.proofs.Common.{◌≡◌}
use Rattle.console.specs.Cutting.{words_left}
use Rattle.console.proofs.Reading.{passes}
use Rattle.console.proofs.outline.check_items.Given as goal

abbrev pub invariant-loop-word : goal.invariant-loop-word
invariant-loop-word g l =
    let F = g.T.PageItem.form in
    passes (F.reads l.kind) F.expected l.line (words_left l.fn.words) ≡ passes (F.reads l.kind) F.expected l.line (words_left l.word-iterator)
