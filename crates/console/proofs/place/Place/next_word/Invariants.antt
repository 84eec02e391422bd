use Rattle.std.proofs.Common.{◌≡◌, ◌+◌, ◌≤◌, drop}
use Rattle.console.specs.Cutting.{next_word}
use Rattle.console.proofs.place.Place.next_word.Given as goal

abbrev pub invariant-loop-i : goal.invariant-loop-i
invariant-loop-i l = (next_word l.self.passed l.self.text.now ≡ next_word l.passed (drop l.i l.self.text.now)) × (l.passed ≤ l.self.passed + l.i)
