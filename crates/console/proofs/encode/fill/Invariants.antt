use Rattle.std.proofs.Common.{◌≡◌, ◌≤◌, ◌++◌, filter_map, length, take}
use Rattle.console.specs.Cutting.{words_left}
use Rattle.console.proofs.encode.fill.Given as goal

abbrev pub invariant-loop-word : goal.invariant-loop-word
invariant-loop-word g l =
    let items = filter_map (g.T.PageItem.form.reads l.kind) in
    (items (words_left l.fn.words) ≡ take l.filled l.strip ++ items (words_left l.word-iterator))
    × (l.filled ≤ length l.strip) × (length l.strip ≡ length l.fn.strip)
