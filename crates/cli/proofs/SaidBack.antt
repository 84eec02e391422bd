-- A command that is written as text is read back as that command. Assumes nothing.
use Rattle.std.proofs.Common.{◌≡◌, ℕ, ◌+◌, ◌<◌, ◌≤◌, true, List, [], ◌∷◌, ◌++◌, map, length, Some, None, Ok, decimal, sym, refl, ap, ◌∙◌, append-nil, arith, ⊎_elim}
use Rattle.std.proofs.lemmas.Fmt.{decimal_digit}
use Rattle.std.proofs.lemmas.Bool.{le-ltb, le-leb, cases_lt}
use Rattle.std.proofs.lemmas.Bool.Decides.{nat_tests}
use Rattle.std.specs.Char.{is_ascii_digit}
use Rattle.std.specs.List.{AllByRecursion}
use Rattle.std.specs.Str.{all_ascii_digits}
use Rattle.automaton.specs.Shown.{digits}
use Rattle.console.specs.Numbers.{number_end, number}
use Rattle.console.specs.Pages.{spaced}
use Rattle.console.specs.Cutting.{leading, words}
use Rattle.console.specs.declared.cutting.Class.TheVariants.{NotHash}
use Rattle.console.proofs.Digits.{number-some}
use Rattle.console.proofs.ReadBack.{Of, Word, HasDigits, Numeral, of-append, leading_all, words-front, digits_of, numeral-word, decimal-numeral, decimal-some, decimal-value, number-decimal, spaced_apart, words-spaced, all_of, part_of, is_word, word_by}
use Rattle.cli.specs.Commands.{ScriptCommand, count, letters, most_steps, verb_text, verb_of, arguments, command_of, line_command, Sayable, ReadsBack}
use Rattle.cli.specs.Commands.ScriptCommand.{opens, step, steps, touches, reads, arc, meters, closes}
use Rattle.cli.specs.declared.command.Verb.{Verb}
use Rattle.cli.specs.declared.command.Verb.TheVariants as verb

digit_not-hash : HasDigits NotHash
digit_not-hash b h = grind (arith, nat_tests)

-- numbers
module _ (n : ℕ) (fits : n ≤ number_end) where
  below : n < number_end → count (decimal n) ≡ Some n
  below h = rw (number-decimal n h)

  end_is : number_end ≤ n → count (decimal n) ≡ Some n
  end_is h =
      let some = decimal-some n fits in
      let all = (decimal-numeral n fits).all in
      let none : number (decimal n) ≡ None = number-some (decimal n) some ∙ rw (all, decimal-value n fits, le-ltb n number_end h) in
      let same : number_end ≡ n = omega (arith, h, fits) in
      rw (none, some, all) (ap (λ (m : ℕ). Some m) same)

  count-decimal : count (decimal n) ≡ Some n
  count-decimal = ⊎_elim below end_is (cases_lt n number_end)

-- rings
ring_all : (r : List ℕ) → AllByRecursion (λ a. a < 10) r → all_ascii_digits (digits r) ≡ true
ring_all [] h = refl
ring_all (a ∷ r) h =
    let d : is_ascii_digit (48 + a) ≡ true = grind (arith, nat_tests, h.0) in
    rw (decimal_digit a h.0, d, ring_all r h.1)

ring_letters : (r : List ℕ) → AllByRecursion (λ a. a < 10) r → letters (digits r) ≡ r
ring_letters [] h = refl
ring_letters (a ∷ r) h = rw (decimal_digit a h.0, ring_letters r h.1) (ap (λ (x : ℕ). x ∷ r) (omega arith))

-- a text of a name and words after it
map-same : {X : Type 0} (xs : List X) → map (λ x. x) xs ≡ xs
map-same [] = refl
map-same (x ∷ xs) = ap (λ (ys : List _). x ∷ ys) (map-same xs)

-- a word without the sign of a comment
pub record Plain (w : List ℕ) : Type 0 where
  pub word : Word w
  pub plain : Of NotHash w

numeral_plain : (w : List ℕ) → Numeral w → Plain w
numeral_plain w d = record { word = numeral-word w d; plain = digits_of NotHash digit_not-hash w d.all }

-- the same by a test that computes
plain_by : (w : List ℕ) → is_word w ≡ true → all_of NotHash w ≡ true → Plain w
plain_by w h k = record { word = word_by w h; plain = part_of NotHash w k }

spaced_plain : (ws : List (List ℕ)) → AllByRecursion Plain ws → Of NotHash (spaced (λ w. w) ws)
spaced_plain [] h = tt
spaced_plain (w ∷ ws) h = (refl, of-append NotHash w (spaced (λ v. v) ws) h.0.plain (spaced_plain ws h.1))

each-word : (ws : List (List ℕ)) → AllByRecursion Plain ws → AllByRecursion Word ws
each-word [] h = tt
each-word (w ∷ ws) h = (h.0.word, each-word ws h.1)

module _ (name : List ℕ) (ws : List (List ℕ)) (n : Plain name) (h : AllByRecursion Plain ws) where
  abbrev said : List ℕ
  said = name ++ spaced (λ w. w) ws

  no-comment : leading NotHash said ≡ said
  no-comment =
      let all : Of NotHash said = of-append NotHash name (spaced (λ w. w) ws) n.plain (spaced_plain ws h) in
      ap (leading NotHash) (sym (append-nil said)) ∙ leading_all NotHash said all

  its-words : words said ≡ name ∷ ws
  its-words =
      words-front name (spaced (λ w. w) ws) n.word (spaced_apart (λ w. w) ws)
      ∙ ap (λ (vs : List (List ℕ)). name ∷ vs) (words-spaced (λ w. w) ws (each-word ws h) ∙ map-same ws)

  line_read : line_command said ≡ command_of (name ∷ ws)
  line_read = ap (λ (t : List ℕ). command_of (words t)) no-comment ∙ ap command_of its-words

-- the names
name_plain : (v : Verb) → Plain (verb_text v)
name_plain verb.Open = plain_by (verb_text verb.Open) refl refl
name_plain verb.Step = plain_by (verb_text verb.Step) refl refl
name_plain verb.Touch = plain_by (verb_text verb.Touch) refl refl
name_plain verb.Read = plain_by (verb_text verb.Read) refl refl
name_plain verb.Arc = plain_by (verb_text verb.Arc) refl refl
name_plain verb.Meters = plain_by (verb_text verb.Meters) refl refl
name_plain verb.Close = plain_by (verb_text verb.Close) refl refl

-- the words after the name
decimal_plain : (n : ℕ) → n ≤ number_end → Plain (decimal n)
decimal_plain n h = numeral_plain (decimal n) (decimal-numeral n h)

ring_some : (a : ℕ) (r : List ℕ) → a < 10 → 0 < length (digits (a ∷ r))
ring_some a r h = rw (decimal_digit a h) (omega arith)

arguments_plain : (c : ScriptCommand) → Sayable c → AllByRecursion Plain (arguments c)
arguments_plain (opens []) h = tt
arguments_plain (opens (a ∷ r)) h = (numeral_plain (digits (a ∷ r)) (record { some = ring_some a r h.0; all = ring_all (a ∷ r) h }), tt)
arguments_plain step h = tt
arguments_plain (steps n) h = (decimal_plain n (omega (arith, h)), tt)
arguments_plain (touches site letter) h = (decimal_plain site h.0, (decimal_plain letter h.1, tt))
arguments_plain (reads site) h = (decimal_plain site h, tt)
arguments_plain (arc site len) h = (decimal_plain site h.0, (decimal_plain len h.1, tt))
arguments_plain meters h = tt
arguments_plain closes h = tt

-- the command that the words are
words_read : (c : ScriptCommand) → Sayable c → command_of (verb_text (verb_of c) ∷ arguments c) ≡ Ok (Some c)
words_read (opens []) h = refl
words_read (opens (a ∷ r)) h = rw (ring_all (a ∷ r) h, ring_letters (a ∷ r) h)
words_read step h = refl
words_read (steps n) h = rw (count-decimal n (omega (arith, h)), le-leb n most_steps h)
words_read (touches site letter) h = rw (count-decimal site h.0, count-decimal letter h.1)
words_read (reads site) h = rw (count-decimal site h)
words_read (arc site len) h = rw (count-decimal site h.0, count-decimal len h.1)
words_read meters h = refl
words_read closes h = refl

pub reads_back : ReadsBack
reads_back c h = line_read (verb_text (verb_of c)) (arguments c) (name_plain (verb_of c)) (arguments_plain c h) ∙ words_read c h
