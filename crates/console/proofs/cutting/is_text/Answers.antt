use Rattle.std.proofs.lemmas.Slice.Eq.{slice_eq-Decides, bytes_eq-Decides}
use Rattle.std.proofs.lemmas.Bool.Decides.{same_from_decides, Decides-eqb}
use Rattle.std.specs.Str.{bytes_eq}
use Rattle.console.proofs.cutting.is_text.Goals as goal

pub returns : goal.returns
returns c =
    let h = rw c.as_bytes.ensures.value at (slice_eq-Decides Decides-eqb c.args.word.now c.as_bytes.result.now c.eq.result c.eq.ensures) in
    same_from_decides c.eq.result (bytes_eq c.args.word.now c.args.text.now) h (bytes_eq-Decides c.args.word.now c.args.text.now)
