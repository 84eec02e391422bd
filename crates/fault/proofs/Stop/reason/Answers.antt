use Rattle.std.proofs.Common.{sym, ap}
use Rattle.fault.specs.Refusals.{reason_of}
use Rattle.fault.proofs.Stop.reason.Goals as goal

pub returns-in-UnknownKind : goal.returns-in-UnknownKind
returns-in-UnknownKind c = sym (ap reason_of c.in-UnknownKind.is)

pub returns-in-AlphabetsDiffer : goal.returns-in-AlphabetsDiffer
returns-in-AlphabetsDiffer c = sym (ap reason_of c.in-AlphabetsDiffer.is)

pub returns-in-TooManyWords : goal.returns-in-TooManyWords
returns-in-TooManyWords c = sym (ap reason_of c.in-TooManyWords.is)

pub returns-in-BadLength : goal.returns-in-BadLength
returns-in-BadLength c = sym (ap reason_of c.in-BadLength.is)
