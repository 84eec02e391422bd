-- What is written as a page is read as the same preset. Assumes nothing.
use Rattle.std.proofs.Common.{◌≡◌, ℕ, suc, ◌+◌, ◌<◌, ◌≤◌, Bool, true, false, ◌&&◌, eqb, ltb, List, [], ◌∷◌, ◌++◌, map, length, get_or, ℤ, pos, negsuc, nat_abs, Some, Ok, decimal, Option, sym, refl, ap, ◌∙◌, ap₂, append_assoc, append-nil, arith, length-append}
use Rattle.std.proofs.lemmas.Fmt.{digits_decimal, digits_value-decimal, decimal_nonempty}
use Rattle.std.proofs.lemmas.Slice.Eq.{bytes_eq-Decides}
use Rattle.std.proofs.lemmas.Str.Parse.{IsNumeralModel, numerals_by_fold, tells_all_ascii_digits}
use Rattle.std.proofs.lemmas.Bool.{true≢false, and_parts, not-true, ne_eqb, lt-ltb, ltb-true}
use Rattle.std.proofs.lemmas.Bool.Decides.{nat_tests}
use Rattle.std.specs.Char.{is_ascii_digit}
use Rattle.std.specs.Fmt.{signed_decimal}
use Rattle.std.specs.List.{AllByRecursion}
use Rattle.std.specs.Str.{all_ascii_digits}
use Rattle.charge.specs.declared.kind.ChargeKind.{ChargeKind}
use Rattle.charge.specs.declared.kind.ChargeKind.TheVariants.{Voices, Pitch, Channels, Both, Cents}
use Rattle.preset.specs.declared.entry.Entry.{Entry}
use Rattle.preset.specs.declared.header.Header.{Header}
use Rattle.console.specs.Forms.{letter, halves, entry, entry_text}
use Rattle.console.specs.Grammar.{Content, parsed}
use Rattle.console.specs.Names.{part_text, kind_text, named_kind}
use Rattle.console.specs.Numbers.{number_end, value_after, number, signed_number}
use Rattle.console.specs.Pages.{spaced, page_text}
use Rattle.console.specs.Rows.{PageRow, TextReading, row, only_word, number_row, kind_row, each, items_row, ending}
use Rattle.console.specs.Cutting.{TextPlace, blank, belongs, leading, past, words, next_word}
use Rattle.console.specs.ReadBack.{OfKind, Holdable, page_lines, ReadsAs}
use Rattle.console.specs.declared.error.Expected.{Expected}
use Rattle.console.specs.declared.error.Expected.TheVariants.{Number}
use Rattle.console.specs.declared.error.Expected.TheVariants as expected
use Rattle.console.specs.declared.page_part.PagePart.{PagePart}
use Rattle.console.specs.declared.page_part.PagePart.TheVariants.{Kind, Letters, Window, Reach, Width, Rule, Density, Bytes}
use Rattle.console.specs.declared.cutting.Class.{Class}
use Rattle.console.specs.declared.cutting.Class.TheVariants.{Blank, NotBlank, NotNewline, NotColon}
use Rattle.console.proofs.Cuts.{leading_more, past_more, leading_ends, past_ends, words-past-blank, words-some}
use Rattle.console.proofs.Digits.{number-some, signed_plain}
use Rattle.console.proofs.Reading.{row_is, word-is, value-is, ending-is}

-- bytes that are all of a class
abbrev pub Of : Class → List ℕ → Type 0
Of class w = AllByRecursion (λ b. belongs class b ≡ true) w

pub of-append : (class : Class) (w v : List ℕ) → Of class w → Of class v → Of class (w ++ v)
of-append class [] v h k = k
of-append class (b ∷ w) v h k = (h.0, of-append class w v h.1 k)

-- such bytes are the front, where another byte follows
module _ (class : Class) (b : ℕ) (rest : List ℕ) (ends : belongs class b ≡ false) where
  leading_of : (w : List ℕ) → Of class w → leading class (w ++ (b ∷ rest)) ≡ w
  leading_of [] h = leading_ends class b rest ends
  leading_of (x ∷ w) h = leading_more class x (w ++ (b ∷ rest)) h.0 ∙ ap (λ (v : List ℕ). x ∷ v) (leading_of w h.1)

  past_of : (w : List ℕ) → Of class w → past class (w ++ (b ∷ rest)) ≡ b ∷ rest
  past_of [] h = past_ends class b rest ends
  past_of (x ∷ w) h = past_more class x (w ++ (b ∷ rest)) h.0 ∙ past_of w h.1

-- and where nothing follows
pub leading_all : (class : Class) (w : List ℕ) → Of class w → leading class (w ++ []) ≡ w
leading_all class [] h = refl
leading_all class (x ∷ w) h = leading_more class x (w ++ []) h.0 ∙ ap (λ (v : List ℕ). x ∷ v) (leading_all class w h.1)

past_all : (class : Class) (w : List ℕ) → Of class w → past class (w ++ []) ≡ []
past_all class [] h = refl
past_all class (x ∷ w) h = past_more class x (w ++ []) h.0 ∙ past_all class w h.1

-- nothing, or a blank
abbrev pub Apart : List ℕ → Type 0
Apart [] = Unit {0}
Apart (b ∷ bs) = blank b ≡ true

leading_apart : (w rest : List ℕ) → Of NotBlank w → Apart rest → leading NotBlank (w ++ rest) ≡ w
leading_apart w [] h k = leading_all NotBlank w h
leading_apart w (b ∷ rest) h k = leading_of NotBlank b rest (rw k) w h

past_apart : (w rest : List ℕ) → Of NotBlank w → Apart rest → past NotBlank (w ++ rest) ≡ rest
past_apart w [] h k = past_all NotBlank w h
past_apart w (b ∷ rest) h k = past_of NotBlank b rest (rw k) w h

-- a word: some bytes, none of them blank or the end of a line
pub record Word (w : List ℕ) : Type 0 where
  pub some : 0 < length w
  pub unbroken : Of NotBlank w
  pub on_line : Of NotNewline w

-- the word that a line begins with
pub words-front : (w rest : List ℕ) → Word w → Apart rest → words (w ++ rest) ≡ w ∷ words rest
words-front [] rest h k = absurd (omega (arith, h.some))
words-front (x ∷ w) rest h k =
    let bs = x ∷ (w ++ rest) in
    let s : past Blank bs ≡ bs = past_ends Blank x (w ++ rest) (not-true (blank x) h.unbroken.0) in
    let f : leading NotBlank (past Blank bs) ≡ x ∷ w = ap (leading NotBlank) s ∙ leading_apart (x ∷ w) rest h.unbroken k in
    let a : past NotBlank (past Blank bs) ≡ rest = ap (past NotBlank) s ∙ past_apart (x ∷ w) rest h.unbroken k in
    words-some bs (λ e. omega (arith, ap length f, e)) ∙ ap₂ (λ (v : List ℕ) (u : List ℕ). v ∷ words u) f a

words-nil : words [] ≡ []
unfolding words
words-nil = refl

-- a space and a word
words_one : (w : List ℕ) → Word w → words (32 ∷ w) ≡ w ∷ []
words_one w h = words-past-blank 32 w refl ∙ (ap words (sym (append-nil w)) ∙ (words-front w [] h tt ∙ ap (λ ws. w ∷ ws) words-nil))

-- digits
pub own : IsNumeralModel (λ ds. all_ascii_digits ds ≡ true) (value_after 0)
own = numerals_by_fold (λ ds. all_ascii_digits ds ≡ true) tells_all_ascii_digits value_after (record { empty = λ n. refl; more = λ n c cs h. refl })

-- the digits are of a class
abbrev pub HasDigits : Class → Type 0
HasDigits class = (b : ℕ) → is_ascii_digit b ≡ true → belongs class b ≡ true

digit_not-blank : HasDigits NotBlank
digit_not-blank b h = grind (arith, nat_tests)

digit_not-newline : HasDigits NotNewline
digit_not-newline b h = grind (arith, nat_tests)

digit_not_colon : HasDigits NotColon
digit_not_colon b h = grind (arith, nat_tests)

pub digits_of : (class : Class) → HasDigits class → (w : List ℕ) → all_ascii_digits w ≡ true → Of class w
digits_of class each [] h = tt
digits_of class each (b ∷ w) h = let p = and_parts (is_ascii_digit b) (all_ascii_digits w) h in (each b p.0, digits_of class each w p.1)

-- a word of digits
pub record Numeral (w : List ℕ) : Type 0 where
  pub some : 0 < length w
  pub all : all_ascii_digits w ≡ true

pub numeral-word : (w : List ℕ) → Numeral w → Word w
numeral-word w d = record { some = d.some; unbroken = digits_of NotBlank digit_not-blank w d.all; on_line = digits_of NotNewline digit_not-newline w d.all }

module _ (v : ℕ) (fits : v ≤ number_end) where
  pub decimal-numeral : Numeral (decimal v)
  decimal-numeral = record { some = decimal_nonempty v (omega (arith, fits)); all = digits_decimal own v (omega (arith, fits)) }

  pub decimal-some : eqb (length (decimal v)) 0 ≡ false
  decimal-some = ne_eqb (length (decimal v)) 0 (λ e. omega (arith, e, decimal-numeral.some))

  pub decimal-value : value_after 0 (decimal v) ≡ v
  decimal-value = digits_value-decimal own v (omega (arith, fits))

module _ (v : ℕ) (fits : v < number_end) where
  decimal_of : (class : Class) → HasDigits class → Of class (decimal v)
  decimal_of class each = digits_of class each (decimal v) (decimal-numeral v (omega arith)).all

  pub decimal-word : Word (decimal v)
  decimal-word = numeral-word (decimal v) (decimal-numeral v (omega arith))

  pub number-decimal : number (decimal v) ≡ Some v
  number-decimal =
      let below : v ≤ number_end = omega arith in
      number-some (decimal v) (decimal-some v below) ∙ rw ((decimal-numeral v below).all, decimal-value v below, lt-ltb v number_end fits)

-- signed numbers
first_digit : (w : List ℕ) → 0 < length w → all_ascii_digits w ≡ true → get_or w 0 0 ≡ 45 → ⊥
first_digit [] h d e = omega (arith, h)
first_digit (b ∷ w) h d e = let p = and_parts (is_ascii_digit b) (all_ascii_digits w) d in let z : true ≡ false = sym p.0 ∙ ap is_ascii_digit e in absurd (true≢false z)

module _ (class : Class) (each : HasDigits class) (minus : belongs class 45 ≡ true) where
  signed_of : (z : ℤ) → nat_abs z < number_end → Of class (signed_decimal z)
  signed_of (pos n) h = decimal_of n h class each
  signed_of (negsuc n) h = (minus, decimal_of (suc n) h class each)

signed-some : (z : ℤ) → nat_abs z < number_end → 0 < length (signed_decimal z)
signed-some (pos n) h = decimal_nonempty n (omega arith)
signed-some (negsuc n) h = omega arith

pub signed_word : (z : ℤ) → nat_abs z < number_end → Word (signed_decimal z)
signed_word z h = record { some = signed-some z h; unbroken = signed_of NotBlank digit_not-blank refl z h; on_line = signed_of NotNewline digit_not-newline refl z h }

pub signed_number-signed : (z : ℤ) → nat_abs z < number_end → signed_number (signed_decimal z) ≡ Some z
signed_number-signed (pos n) h = signed_plain (decimal n) (first_digit (decimal n) (decimal_nonempty n (omega arith)) (digits_decimal own n (omega arith))) ∙ rw (number-decimal n h)
signed_number-signed (negsuc n) h = rw (number-decimal (suc n) h)

-- letters and entries
pub letter-decimal : (v : ℕ) → v < 256 → letter (decimal v) ≡ Some v
letter-decimal v h = rw (number-decimal v (omega arith), lt-ltb v 256 h)

both_of : (class : Class) → HasDigits class → belongs class 45 ≡ true → belongs class 58 ≡ true → (e : Entry) → OfKind Both e → Of class (entry_text Both e)
both_of class each minus colon e h = of-append class (signed_decimal e.signed) (58 ∷ decimal e.plain) (signed_of class each minus e.signed h.0) (colon, decimal_of e.plain h.1 class each)

pub entry-word : (kind : ChargeKind) (e : Entry) → OfKind kind e → Word (entry_text kind e)
entry-word Voices e h = signed_word e.signed h.0
entry-word Pitch e h = decimal-word e.plain h.1
entry-word Channels e h = decimal-word e.plain h.1
entry-word Both e h = record {
  some = omega (arith, signed-some e.signed h.0, length-append (signed_decimal e.signed) (58 ∷ decimal e.plain));
  unbroken = both_of NotBlank digit_not-blank refl refl e h;
  on_line = both_of NotNewline digit_not-newline refl refl e h;
}
entry-word Cents e h = decimal-word e.plain h.1

pub entry-reads : (kind : ChargeKind) (e : Entry) → OfKind kind e → entry kind (entry_text kind e) ≡ Some e
entry-reads Voices e h = rw (signed_number-signed e.signed h.0) (ap (λ (p : ℕ). Some (record { signed = e.signed; plain = p })) (sym h.1))
entry-reads Pitch e h = rw (number-decimal e.plain h.1) (ap (λ (z : ℤ). Some (record { signed = z; plain = e.plain })) (sym h.0))
entry-reads Channels e h = rw (number-decimal e.plain h.1) (ap (λ (z : ℤ). Some (record { signed = z; plain = e.plain })) (sym h.0))
entry-reads Both e h =
    let s = signed_of NotColon digit_not_colon refl e.signed h.0 in
    ap₂ halves (leading_of NotColon 58 (decimal e.plain) refl (signed_decimal e.signed) s) (past_of NotColon 58 (decimal e.plain) refl (signed_decimal e.signed) s)
    ∙ rw (signed_number-signed e.signed h.0, number-decimal e.plain h.1)
entry-reads Cents e h = rw (number-decimal e.plain h.1) (ap (λ (z : ℤ). Some (record { signed = z; plain = e.plain })) (sym h.0))

-- a row of items
module _ {X : Type 0} (shows : X → List ℕ) where
  pub spaced_apart : (xs : List X) → Apart (spaced shows xs)
  spaced_apart [] = tt
  spaced_apart (x ∷ xs) = refl

  spaced_on-line : (xs : List X) → AllByRecursion (λ x. Word (shows x)) xs → Of NotNewline (spaced shows xs)
  spaced_on-line [] h = tt
  spaced_on-line (x ∷ xs) h = (refl, of-append NotNewline (shows x) (spaced shows xs) h.0.on_line (spaced_on-line xs h.1))

  pub words-spaced : (xs : List X) → AllByRecursion (λ x. Word (shows x)) xs → words (spaced shows xs) ≡ map shows xs
  words-spaced [] h = words-nil
  words-spaced (x ∷ xs) h =
      words-past-blank 32 (shows x ++ spaced shows xs) refl
      ∙ (words-front (shows x) (spaced shows xs) h.0 (spaced_apart xs) ∙ ap (λ ws. shows x ∷ ws) (words-spaced xs h.1))

  each-shown : (reads : List ℕ → Option X) (expected : Expected) (line : ℕ) (xs : List X) → AllByRecursion (λ x. reads (shows x) ≡ Some x) xs → each reads expected line (map shows xs) ≡ Ok xs
  each-shown reads expected line [] h = refl
  each-shown reads expected line (x ∷ xs) h = rw (h.0, each-shown reads expected line xs h.1)

-- a part's name
abbrev pub all_of : Class → List ℕ → Bool
all_of class [] = true
all_of class (b ∷ w) = belongs class b && all_of class w

pub part_of : (class : Class) (w : List ℕ) → all_of class w ≡ true → Of class w
part_of class [] h = tt
part_of class (b ∷ w) h = let p = and_parts (belongs class b) (all_of class w) h in (p.0, part_of class w p.1)

-- what is a word, by a test that computes
abbrev pub is_word : List ℕ → Bool
is_word w = ltb 0 (length w) && (all_of NotBlank w && all_of NotNewline w)

pub word_by : (w : List ℕ) → is_word w ≡ true → Word w
word_by w h =
    let p = and_parts (ltb 0 (length w)) (all_of NotBlank w && all_of NotNewline w) h in
    let q = and_parts (all_of NotBlank w) (all_of NotNewline w) p.1 in
    record { some = ltb-true 0 (length w) p.0; unbroken = part_of NotBlank w q.0; on_line = part_of NotNewline w q.1 }

part-word : (part : PagePart) → Word (part_text part)
part-word Kind = word_by (part_text Kind) refl
part-word Letters = word_by (part_text Letters) refl
part-word Window = word_by (part_text Window) refl
part-word Reach = word_by (part_text Reach) refl
part-word Width = word_by (part_text Width) refl
part-word Rule = word_by (part_text Rule) refl
part-word Density = word_by (part_text Density) refl
part-word Bytes = word_by (part_text Bytes) refl

-- the next word is the one that a text begins with
word_first : (n : ℕ) (w rest : List ℕ) → Word w → next_word n (w ++ rest) ≡ record { passed = n; text = w ++ rest }
word_first n [] rest h = absurd (omega (arith, h.some))
word_first n (x ∷ w) rest h = rw (not-true (eqb x 10) h.on_line.0, not-true (blank x) h.unbroken.0)

-- the line of a part, in front of the text
module _ (part : PagePart) (n : ℕ) (args rest : List ℕ) (on_line : Of NotNewline args) (apart : Apart args) where
  abbrev text : List ℕ
  text = part_text part ++ (args ++ (10 ∷ rest))

  abbrev here : TextPlace
  here = record { passed = n; text = text }

  pub row_text : row part here ≡ Ok (record { value = words args; line = n + 1; after = record { passed = n; text = 10 ∷ rest } })
  row_text =
      let name = part_text part in
      let w = part-word part in
      let all = of-append NotNewline name args w.on_line on_line in
      let joins : text ≡ (name ++ args) ++ (10 ∷ rest) = sym (append_assoc name args (10 ∷ rest)) in
      let f : leading NotNewline text ≡ name ++ args = ap (leading NotNewline) joins ∙ leading_of NotNewline 10 rest refl (name ++ args) all in
      let a : past NotNewline text ≡ 10 ∷ rest = ap (past NotNewline) joins ∙ past_of NotNewline 10 rest refl (name ++ args) all in
      let has = ap words f ∙ words-front name args w apart in
      let some = ne_eqb (length text) 0 (λ e. omega (arith, e, w.some, length-append name (args ++ (10 ∷ rest)))) in
      let same = (bytes_eq-Decides name name).1 refl in
      row_is part here here (sym (word_first n name (args ++ (10 ∷ rest)) w)) some name (words args) has same
      ∙ ap (λ (t : List ℕ). Ok (record { value = words args; line = n + 1; after = record { passed = n; text = t } })) a

-- the same after the end of a line
row_next : (part : PagePart) (n : ℕ) (text : List ℕ) → row part (record { passed = n; text = 10 ∷ text }) ≡ row part (record { passed = n + 1; text = text })
unfolding row
row_next part n rest = refl

module _ (part : PagePart) (n : ℕ) (rest : List ℕ) where
  abbrev line_at : List ℕ → TextPlace
  line_at args = record { passed = n; text = 10 ∷ (part_text part ++ (args ++ (10 ∷ rest))) }

  abbrev said : {X : Type 0} → X → PageRow X
  said x = record { value = x; line = n + 1 + 1; after = record { passed = n + 1; text = 10 ∷ rest } }

  row_line : (args : List ℕ) → Of NotNewline args → Apart args → row part (line_at args) ≡ Ok (said (words args))
  row_line args h k = row_next part n (part_text part ++ (args ++ (10 ∷ rest))) ∙ row_text part (n + 1) args rest h k

  number-line : (v : ℕ) → v < number_end → number_row part (line_at (32 ∷ decimal v)) ≡ Ok (said v)
  unfolding number_row
  number-line v h =
      let w = decimal v in
      let place = line_at (32 ∷ w) in
      let word = decimal-word v h in
      let r = row_line (32 ∷ w) (refl, word.on_line) refl in
      let one : Ok w ≡ only_word Number (n + 1 + 1) (words (32 ∷ w)) = rw (words_one w word) in
      sym (value-is number part Number place (said w) (word-is part Number place (said (words (32 ∷ w))) (sym r) w one) v (sym (number-decimal v h)))

  module _ {X : Type 0} (shows : X → List ℕ) (reads : List ℕ → Option X) (expected : Expected) where
    items-line : (xs : List X) → AllByRecursion (λ x. Word (shows x)) xs → AllByRecursion (λ x. reads (shows x) ≡ Some x) xs → items_row reads expected part (line_at (spaced shows xs)) ≡ Ok (said xs)
    items-line xs h k = rw (row_line (spaced shows xs) (spaced_on-line shows xs h) (spaced_apart shows xs), words-spaced shows xs h, each-shown shows reads expected (n + 1 + 1) xs k)

-- the line of the kind, which is the first
kind-word : (kind : ChargeKind) → Word (kind_text kind)
kind-word Voices = word_by (kind_text Voices) refl
kind-word Pitch = word_by (kind_text Pitch) refl
kind-word Channels = word_by (kind_text Channels) refl
kind-word Both = word_by (kind_text Both) refl
kind-word Cents = word_by (kind_text Cents) refl

named_kind-text : (kind : ChargeKind) → named_kind (kind_text kind) ≡ Some kind
named_kind-text Voices = refl
named_kind-text Pitch = refl
named_kind-text Channels = refl
named_kind-text Both = refl
named_kind-text Cents = refl

kind-line : (kind : ChargeKind) (rest : List ℕ) → kind_row (record { passed = 0; text = part_text Kind ++ ((32 ∷ kind_text kind) ++ (10 ∷ rest)) }) ≡ Ok (record { value = kind; line = 1; after = record { passed = 0; text = 10 ∷ rest } })
unfolding kind_row
kind-line kind rest =
    let w = kind_text kind in
    let word = kind-word kind in
    let place : TextPlace = record { passed = 0; text = part_text Kind ++ ((32 ∷ w) ++ (10 ∷ rest)) } in
    let past : TextPlace = record { passed = 0; text = 10 ∷ rest } in
    let r = row_text Kind 0 (32 ∷ w) rest (refl, word.on_line) refl in
    let one : Ok w ≡ only_word expected.Kind 1 (words (32 ∷ w)) = rw (words_one w word) in
    sym (value-is named_kind Kind expected.Kind place (record { value = w; line = 1; after = past }) (word-is Kind expected.Kind place (record { value = words (32 ∷ w); line = 1; after = past }) (sym r) w one) kind (sym (named_kind-text kind)))

-- the line of the bytes, which is the last
bytes-line : (n v : ℕ) → v < number_end → ending (line_at Bytes n [] (32 ∷ decimal v)) ≡ Ok tt
bytes-line n v h =
    let place = line_at Bytes n [] (32 ∷ decimal v) in
    let text = part_text Bytes ++ ((32 ∷ decimal v) ++ (10 ∷ [])) in
    let is = word_first (n + 1) (part_text Bytes) ((32 ∷ decimal v) ++ (10 ∷ [])) (part-word Bytes) in
    let some = ne_eqb (length text) 0 (λ e. omega (arith, e)) in
    sym (ending-is place (record { passed = n + 1; text = text }) (sym is) some (said Bytes n [] v) (sym (number-line Bytes n [] v h)) (record { passed = n + 1 + 1; text = [] }) refl refl)

-- the page
each_all : {X : Type 0} {P Q : X → Type 0} → ((x : X) → P x → Q x) → (xs : List X) → AllByRecursion P xs → AllByRecursion Q xs
each_all f [] h = tt
each_all f (x ∷ xs) h = (f x h.0, each_all f xs h.1)

module _ (kind : ChargeKind) (header : Header) (letters : List ℕ) (entries : List Entry) (bytes : ℕ) where
  abbrev lines_from : PagePart → List ℕ → List ℕ → List ℕ
  lines_from part args rest = part_text part ++ (args ++ (10 ∷ rest))

  abbrev t_bytes : List ℕ
  t_bytes = lines_from Bytes (32 ∷ decimal bytes) []

  abbrev t_density : List ℕ
  t_density = lines_from Density (spaced (entry_text kind) entries) t_bytes

  abbrev t_rule : List ℕ
  t_rule = lines_from Rule (spaced decimal letters) t_density

  abbrev t_width : List ℕ
  t_width = lines_from Width (32 ∷ decimal header.k) t_rule

  abbrev t_reach : List ℕ
  t_reach = lines_from Reach (32 ∷ decimal header.l) t_width

  abbrev t_window : List ℕ
  t_window = lines_from Window (32 ∷ decimal header.n) t_reach

  abbrev t_letters : List ℕ
  t_letters = lines_from Letters (32 ∷ decimal header.q) t_window

  page_lines-text : page_text kind header letters entries bytes ≡ lines_from Kind (32 ∷ kind_text kind) t_letters
  page_lines-text = simp append_assoc

  pub page_returns : Holdable kind header letters entries bytes → ReadsAs kind header letters entries (page_text kind header letters entries bytes)
  page_returns h =
      let e1 = kind-line kind t_letters in
      let e2 = number-line Letters 0 t_window header.q h.q in
      let e3 = number-line Window 1 t_reach header.n h.n in
      let e4 = number-line Reach 2 t_width header.l h.l in
      let e5 = number-line Width 3 t_rule header.k h.k in
      let e6 = items-line Rule 4 t_density decimal letter expected.Letter letters (each_all (λ v l. decimal-word v (omega arith)) letters h.letter) (each_all letter-decimal letters h.letter) in
      let e7 = items-line Density 5 t_bytes (entry_text kind) (entry kind) expected.Entry entries (each_all (entry-word kind) entries h.entry) (each_all (entry-reads kind) entries h.entry) in
      let e8 = bytes-line 6 bytes h.count in
      let content : ℕ → TextReading Content = λ m. Ok (record { kind = kind; header = record { kind = m; q = header.q; n = header.n; l = header.l; k = header.k }; letters = letters; entries = entries; lines = page_lines }) in
      ap parsed page_lines-text ∙ rw (e1, e2, e3, e4, e5, e6, e7, e8) (ap content (sym h.same_kind))
