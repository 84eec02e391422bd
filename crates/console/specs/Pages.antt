-- A preset as a page of text. Assumes nothing.
use Rattle.std.specs.Prelude.{ℕ, List, ◌∷◌, ◌++◌, codes, decimal}
use Rattle.std.specs.List.{flat_map}
use Rattle.charge.specs.declared.kind.ChargeKind.{ChargeKind}
use Rattle.preset.specs.declared.entry.Entry.{Entry}
use Rattle.preset.specs.declared.header.Header.{Header}
use Rattle.console.specs.Forms.{entry_text}
use Rattle.console.specs.Names.{kind_text}

-- a space before each item
abbrev pub spaced : {X : Type 0} → (X → List ℕ) → List X → List ℕ
spaced shows xs = flat_map (λ x. 32 ∷ shows x) xs

-- the lines of the kind and the sizes
abbrev pub head_text : ChargeKind → Header → List ℕ
head_text kind header =
    codes "kind " ++ (kind_text kind
    ++ (codes "\nletters " ++ (decimal header.q
    ++ (codes "\nwindow " ++ (decimal header.n
    ++ (codes "\nreach " ++ (decimal header.l
    ++ (codes "\nwidth " ++ (decimal header.k
    ++ codes "\n")))))))))

-- the lines of the rule and the density by their items, and of the bytes
abbrev pub items_text : List ℕ → List ℕ → ℕ → List ℕ
items_text rule density bytes =
    codes "rule" ++ (rule
    ++ (codes "\ndensity" ++ (density
    ++ (codes "\nbytes " ++ (decimal bytes
    ++ codes "\n")))))

abbrev pub page_text : ChargeKind → Header → List ℕ → List Entry → ℕ → List ℕ
page_text kind header letters entries bytes =
    head_text kind header ++ items_text (spaced decimal letters) (spaced (entry_text kind) entries) bytes
