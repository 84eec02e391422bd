-- What the commands of a script are answered, as text. Assumes nothing.
use Rattle.std.specs.Prelude.{◌≡◌, ℕ, ◌<◌, ◌≤◌, ◌↔◌, Bool, true, false, IsTrue, List, [], ◌++◌, length, Some, None, Option, codes, decimal}
use Rattle.fault.specs.declared.Stop.TheVariants.{BadPosition}
use Rattle.fault.specs.Refusals.{sentence, refusal, refused_at}
use Rattle.preset.specs.Sending.{Sending}
use Rattle.automaton.specs.Shown.{digits}
use Rattle.console.specs.Forms.{entry_text}
use Rattle.console.specs.Pages.{spaced}
use Rattle.console.specs.declared.item.EntryWord.{EntryWord}
use Rattle.charge.specs.Groups.{Kind}
use Rattle.report.specs.Texts.{rows_text}
use Rattle.player.specs.Arcs.{arc_of, arc_means}
use Rattle.player.specs.Logs.{AddsUp}
use Rattle.player.specs.declared.arc.ArcReading.{ArcReading}
use Rattle.player.specs.declared.call.Answer.{Answer}
use Rattle.player.specs.declared.call.Answer.TheVariants as answer
use Rattle.player.specs.declared.meters.Reading.{Reading}
use Rattle.cli.specs.Commands.{ScriptCommand, command_text}
use Rattle.cli.specs.declared.command.Verb.{Verb}
use Rattle.cli.specs.declared.command.Verb.TheVariants as verb
use Rattle.cli.specs.declared.reply.Reply.{Reply}
use Rattle.cli.specs.declared.reply.Reply.TheVariants.{NoRing, RingOpen, Done, Refused, Site, Meters, Arc, LongArc}

-- a call that has no answer was not allowed: an open, since a ring is open, and each other, since none is
abbrev pub unanswered : {C : Type 0} → Verb → Reply C
unanswered verb.Open = RingOpen
unanswered verb.Step = NoRing
unanswered verb.Touch = NoRing
unanswered verb.Read = NoRing
unanswered verb.Arc = NoRing
unanswered verb.Meters = NoRing
unanswered verb.Close = NoRing

-- what a command is answered where it is one call
abbrev pub reply_to : {C : Type 0} → Verb → Option (Answer C) → Reply C
reply_to v None = unanswered v
reply_to v (Some answer.Done) = Done
reply_to v (Some (answer.Refused f)) = Refused f
reply_to v (Some (answer.Reading m)) = Site m

abbrev pub adding_text : Bool → List ℕ
adding_text true = codes "adds up"
adding_text false = codes "does not add up"

module _ {C : Type 0} (S : Sending C) where
  -- a charge as a word of a text, and the meters of a site as such words
  abbrev pub charge_word : C → EntryWord
  charge_word x = record { kind = S.named; entry = S.entry x }

  abbrev pub reading_words : Reading C → Reading EntryWord
  reading_words m =
      record { opening = charge_word m.opening; crossed = charge_word m.crossed; touched = charge_word m.touched; now = charge_word m.now }

  -- the text of a charge
  abbrev pub charge_text : C → List ℕ
  charge_text x = entry_text S.named (S.entry x)

  abbrev pub reading_text : Reading C → List ℕ
  reading_text m =
      codes "opening " ++ (charge_text m.opening
      ++ (codes ", crossed " ++ (charge_text m.crossed
      ++ (codes ", touched " ++ (charge_text m.touched
      ++ (codes ", now " ++ charge_text m.now))))))

  -- a row of the table of meters: the site and its four meters, a tab before each
  abbrev pub meters_row : ℕ → Reading C → List ℕ
  meters_row site m =
      decimal site ++ (codes "\t" ++ (charge_text m.opening
      ++ (codes "\t" ++ (charge_text m.crossed
      ++ (codes "\t" ++ (charge_text m.touched
      ++ (codes "\t" ++ (charge_text m.now ++ codes "\n"))))))))

  abbrev pub meters_text : List (Reading C) → List ℕ
  meters_text ms = codes "site\topening\tcrossed\ttouched\tnow\n" ++ rows_text meters_row 0 ms

  -- the meters of an arc
  abbrev pub arc_text : ArcReading C → List ℕ
  arc_text a =
      codes "opening " ++ (charge_text a.opening
      ++ (codes ", in " ++ (charge_text a.into
      ++ (codes ", out " ++ (charge_text a.out
      ++ (codes ", touched " ++ (charge_text a.touched
      ++ (codes ", now " ++ charge_text a.now))))))))

  -- what a command is answered: the end of its line, and for the meters a table below it
  abbrev pub said : Reply C → List ℕ
  said NoRing = codes ": no ring is open\n"
  said RingOpen = codes ": a ring is open\n"
  said Done = codes ": done\n"
  said (Refused f) = codes ": " ++ (sentence f ++ codes "\n")
  said (Site m) = codes ": " ++ (reading_text m ++ codes "\n")
  said (Meters ms) = codes ":\n" ++ meters_text ms.now
  said (Arc a adds_up) = codes ": " ++ (arc_text a ++ (codes ", " ++ (adding_text adds_up ++ codes "\n")))
  said LongArc = codes ": the arc is longer than the ring\n"

  abbrev pub reply_text : ScriptCommand → Reply C → List ℕ
  reply_text c r = command_text c ++ said r

-- what the meters are answered, of the readings of all sites of the ring that is open: that none is open, or the readings
abbrev pub MetersRight : {C : Type 0} → List (Reading C) → Reply C → Type 0
MetersRight ms NoRing = ms ≡ []
MetersRight ms (Meters ns) = (ns.now ≡ ms) × (0 < length ms)
MetersRight ms (Refused f) = ⊥
MetersRight ms RingOpen = ⊥
MetersRight ms Done = ⊥
MetersRight ms (Site m) = ⊥
MetersRight ms (Arc a adds_up) = ⊥
MetersRight ms LongArc = ⊥

-- What an arc is answered, of the readings of all sites of the ring that is open: that none is open, that its first site is not
-- on the ring, that it has more sites than the ring, or its meters and whether they add up.
abbrev pub ArcRight : {C : Type 0} (K : Kind C) → List (Reading C) → ℕ → ℕ → Reply C → Type 0
ArcRight K ms site len NoRing = ms ≡ []
ArcRight K ms site len (Refused f) = (0 < length ms) × (length ms ≤ site) × (refusal f ≡ refused_at BadPosition 0)
ArcRight K ms site len LongArc = (site < length ms) × (length ms < len)
ArcRight K ms site len (Arc a adds_up) =
    (Some (arc_means K a) ≡ arc_of K ms site len) × (IsTrue adds_up ↔ AddsUp K.group (arc_means K a))
ArcRight K ms site len RingOpen = ⊥
ArcRight K ms site len Done = ⊥
ArcRight K ms site len (Site m) = ⊥
ArcRight K ms site len (Meters ns) = ⊥

-- a ring, and a space before each of the charges that have crossed into its sites, as a line
abbrev pub ring_row : {C : Type 0} → Sending C → List ℕ → List C → List ℕ
ring_row S cells crossed = digits cells ++ (spaced (charge_text S) crossed ++ codes "\n")
