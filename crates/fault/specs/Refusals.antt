-- The number and the words of each stop code. Assumes nothing.
use Rattle.std.specs.Prelude.{ℕ, List, ◌++◌, codes, decimal}
use Rattle.fault.specs.declared.Fault.{Fault}
use Rattle.fault.specs.declared.Stop.{Stop}
use Rattle.fault.specs.declared.Stop.TheVariants.{CutShort, Misspelt, UnknownKind, BadAlphabet, BadWindow, BadReach, BadWidth, AlphabetsDiffer, TooManyWords, SurplusBytes, BadLength, ShortStrip, BadPosition, BadLetter, BadEntry}

-- the number of a stop code
abbrev pub code_of : Stop → ℕ
code_of CutShort = 1
code_of Misspelt = 2
code_of UnknownKind = 3
code_of BadAlphabet = 4
code_of BadWindow = 5
code_of BadReach = 6
code_of BadWidth = 7
code_of AlphabetsDiffer = 8
code_of TooManyWords = 9
code_of SurplusBytes = 10
code_of BadLength = 11
code_of ShortStrip = 12
code_of BadPosition = 13
code_of BadLetter = 14
code_of BadEntry = 15

-- what it says, in words
abbrev pub reason_of : Stop → List ℕ
reason_of CutShort = codes "the bytes end where a number is due"
reason_of Misspelt = codes "a number is misspelt"
reason_of UnknownKind = codes "the kind of charge is above 4"
reason_of BadAlphabet = codes "the alphabet size is not 2 to 8"
reason_of BadWindow = codes "the window is not 1 to 12 letters"
reason_of BadReach = codes "the reach is not below the window"
reason_of BadWidth = codes "the width is not 1 to 12 letters"
reason_of AlphabetsDiffer = codes "two parts differ in alphabet size"
reason_of TooManyWords = codes "there are more than 4096 words"
reason_of SurplusBytes = codes "bytes follow the end of the preset"
reason_of BadLength = codes "the ring does not have 1 to 4096 cells"
reason_of ShortStrip = codes "a strip is too short"
reason_of BadPosition = codes "the position is not on the ring"
reason_of BadLetter = codes "a letter is not below the alphabet size"
reason_of BadEntry = codes "an entry is outside the range of its kind"

-- a refusal as plain numbers, the code and the place
abbrev pub Refusal : Type 0
Refusal = ℕ × ℕ

-- the refusal by a stop code at a place
abbrev pub refused_at : Stop → ℕ → Refusal
refused_at stop place = (code_of stop, place)

-- a fault as plain numbers
abbrev pub refusal : Fault → Refusal
refusal f = refused_at f.stop f.place

-- a refusal in one sentence
abbrev pub sentence : Fault → List ℕ
sentence f =
    codes "Refused with code " ++ (decimal (code_of f.stop) ++ (codes " at place " ++ (decimal f.place ++ (codes ": " ++ (reason_of f.stop ++ codes ".")))))
