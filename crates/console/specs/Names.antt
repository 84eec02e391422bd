-- Things that a word names: the parts of a page and the kinds of charge. Assumes nothing.
use Rattle.std.specs.Prelude.{ℕ, cond, List, [], ◌∷◌, Some, None, codes, Option}
use Rattle.std.specs.Str.{bytes_eq}
use Rattle.charge.specs.declared.kind.ChargeKind.{ChargeKind}
use Rattle.charge.specs.declared.kind.ChargeKind.TheVariants as kind
use Rattle.console.specs.declared.page_part.PagePart.{PagePart}
use Rattle.console.specs.declared.page_part.PagePart.TheVariants.{Kind, Letters, Window, Reach, Width, Rule, Density, Bytes}

-- the first of some things whose name is a word
abbrev pub named : {X : Type 0} → (X → List ℕ) → List X → List ℕ → Option X
named text [] w = None
named text (x ∷ xs) w = cond (bytes_eq w (text x)) (Some x) (named text xs w)

abbrev pub kind_text : ChargeKind → List ℕ
kind_text kind.Voices = codes "voices"
kind_text kind.Pitch = codes "pitch"
kind_text kind.Channels = codes "channels"
kind_text kind.Both = codes "both"
kind_text kind.Cents = codes "cents"

-- the kind of a name
abbrev pub named_kind : List ℕ → Option ChargeKind
named_kind = named kind_text (kind.Voices ∷ kind.Pitch ∷ kind.Channels ∷ kind.Both ∷ kind.Cents ∷ [])

-- each part stands on a line of its own, which begins with the part's name
abbrev pub part_text : PagePart → List ℕ
part_text Kind = codes "kind"
part_text Letters = codes "letters"
part_text Window = codes "window"
part_text Reach = codes "reach"
part_text Width = codes "width"
part_text Rule = codes "rule"
part_text Density = codes "density"
part_text Bytes = codes "bytes"
