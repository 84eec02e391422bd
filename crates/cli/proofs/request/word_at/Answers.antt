use Rattle.std.proofs.Common.{vec_items, ap, ◌∙◌, Some}
use Rattle.cli.proofs.WordsAt.{word-some, word-none}
use Rattle.cli.proofs.request.word_at.Goals as goal

pub returns-in-Some : goal.returns-in-Some
returns-in-Some c =
    let found = c.in-Some.ensures.lookup in
    ap (λ w. Some w) c.as_slice.ensures.value ∙ word-some vec_items c.args.words.now c.args.i c.in-Some.word.now found.3.0 found.1

pub returns-in-None : goal.returns-in-None
returns-in-None c = word-none vec_items c.args.words.now c.args.i c.in-None.ensures.lookup.3
