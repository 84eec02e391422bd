use Rattle.std.proofs.Common.{◌≡◌, take, string_bytes}
use Rattle.console.specs.Pages.{spaced}
use Rattle.console.proofs.writer.row_text.Given as goal

abbrev pub invariant-loop-item : goal.invariant-loop-item
invariant-loop-item g l = string_bytes l.row ≡ spaced (g.T.PageItem.form.shows l.kind) (take l.item-index l.items)
