-- What the program tells beside answers, as text. Assumes nothing.
use Rattle.std.specs.Prelude.{ℕ, List, ◌++◌, codes, decimal}
use Rattle.fault.specs.declared.Fault.{Fault}
use Rattle.fault.specs.Refusals.{code_of, sentence}

-- the code and the place of a refusal, and a line with its sentence
abbrev pub refusal_page : Fault → List ℕ
refusal_page f =
    codes "refused " ++ (decimal (code_of f.stop)
    ++ (codes " " ++ (decimal f.place
    ++ (codes "\n" ++ (sentence f ++ codes "\n")))))

abbrev pub breaks_line : List ℕ → List ℕ
breaks_line path = path ++ codes "\tbreaks\n"

abbrev pub written_line : List ℕ → ℕ → List ℕ
written_line path bytes = path ++ (codes ": " ++ (decimal bytes ++ codes " bytes\n"))
