-- Places of a text. Assumes nothing.
use Rattle.console.specs.Cutting.{TextPlace, next_word}
use Rattle.console.specs.declared.place.Place.{Place}

-- a place as plain numbers
abbrev pub place_meant : Place → TextPlace
place_meant p = record { passed = p.passed; text = p.text.now }

abbrev pub next_place : TextPlace → TextPlace
next_place p = next_word p.passed p.text
