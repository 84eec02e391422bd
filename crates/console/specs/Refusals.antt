-- Which line of a page a refused preset is refused for. Assumes nothing.
use Rattle.std.specs.Prelude.{ℕ, Some, None, Option}
use Rattle.fault.specs.declared.Stop.{Stop}
use Rattle.fault.specs.declared.Stop.TheVariants.{CutShort, Misspelt, UnknownKind, BadAlphabet, BadWindow, BadReach, BadWidth, AlphabetsDiffer, TooManyWords, SurplusBytes, BadLength, ShortStrip, BadPosition, BadLetter, BadEntry}
use Rattle.console.specs.declared.part_lines.PartLines.{PartLines}

-- the line of the part that a stop code speaks of, if it speaks of one
abbrev pub refused_line : PartLines → Stop → Option ℕ
refused_line lines CutShort = None
refused_line lines Misspelt = None
refused_line lines UnknownKind = Some lines.kind
refused_line lines BadAlphabet = Some lines.letters
refused_line lines BadWindow = Some lines.window
refused_line lines BadReach = Some lines.reach
refused_line lines BadWidth = Some lines.width
refused_line lines AlphabetsDiffer = None
refused_line lines TooManyWords = Some lines.width
refused_line lines SurplusBytes = None
refused_line lines BadLength = None
refused_line lines ShortStrip = None
refused_line lines BadPosition = None
refused_line lines BadLetter = Some lines.rule
refused_line lines BadEntry = Some lines.density
