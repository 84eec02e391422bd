use Rattle.std.proofs.Common.{◌≡◌, ◌++◌, filter_map, vec_items}
use Rattle.console.specs.Cutting.{words_left}
use Rattle.console.proofs.reader.collect_items.Given as goal

abbrev pub invariant-loop-word : goal.invariant-loop-word
invariant-loop-word g l =
    let items = filter_map (g.T.PageItem.form.reads l.kind) in
    items (words_left l.fn.words) ≡ vec_items l.items ++ items (words_left l.word-iterator)
