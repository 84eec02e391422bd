-- What a page says, one step after another. Assumes nothing.
use Rattle.std.proofs.Common.{◌≡◌, ℕ, ◌+◌, true, false, eqb, List, [], ◌∷◌, length, filter_map, IsErrAnd, Some, None, Ok, Err, Option, sym, refl, ap, ◌∙◌}
use Rattle.std.specs.Borrow.{Bor}
use Rattle.std.specs.Option.{ok_or, option_map}
use Rattle.std.specs.Str.{bytes_eq}
use Rattle.fault.specs.Answers.{and_then}
use Rattle.console.specs.Names.{part_text}
use Rattle.console.specs.Places.{next_place}
use Rattle.console.specs.Results.{value_as}
use Rattle.console.specs.Rows.{PageRow, TextReading, row_of, valued, named_row, row, only_word, word_row, value_row, number_row, each, text_end, ending}
use Rattle.console.specs.Cutting.{TextPlace, leading, past, words}
use Rattle.console.specs.declared.error.Expected.{Expected}
use Rattle.console.specs.declared.error.Expected.TheVariants.{Name, TextEnd}
use Rattle.console.specs.declared.error.TextError.{TextError}
use Rattle.console.specs.declared.error.TextError.TheVariants.{Ended, Wrong}
use Rattle.console.specs.declared.page_part.PagePart.{PagePart}
use Rattle.console.specs.declared.page_part.PagePart.TheVariants.{Bytes}
use Rattle.console.specs.declared.row.Row.{Row}
use Rattle.console.specs.declared.cutting.Class.TheVariants.{NotNewline}

-- the exit of a `?`
pub passed_on : {X : Type 0} (r : TextReading X) (e : TextError) → IsErrAnd r (λ f. f ≡ e) → r ≡ Err e
passed_on (Ok x) e h = absurd h
passed_on (Err f) e h = ap (λ (g : TextError). Err g) h

-- a step of a chain that is answered, and one that is refused
pub then_ok : {X Y : Type 0} {x : X} {s : TextReading X} (f : X → TextReading Y) → Ok x ≡ s → f x ≡ and_then s f
then_ok f h = ap (λ s. and_then s f) h

pub then_err : {X Y : Type 0} {e : TextError} {s : TextReading X} (f : X → TextReading Y) → Err e ≡ s → Err e ≡ and_then s f
then_err f h = ap (λ s. and_then s f) h

-- the line of a part, from the next word on
module _ (part : PagePart) (place p : TextPlace) (is : p ≡ next_place place) where
  pub row-ended : eqb (length p.text) 0 ≡ true → row part place ≡ Err (Ended part)
  unfolding row
  row-ended e = rw (sym is, e)

  module _ (some : eqb (length p.text) 0 ≡ false) where
    abbrev after_line : TextPlace
    after_line = record { passed = p.passed; text = past NotNewline p.text }

    row_named : (ws : List (List ℕ)) → words (leading NotNewline p.text) ≡ ws → row part place ≡ named_row part (p.passed + 1) after_line ws
    unfolding row
    row_named ws has = rw (sym is, some, has)

    pub row_none : words (leading NotNewline p.text) ≡ [] → row part place ≡ Err (Wrong (p.passed + 1) (Name part))
    row_none has = row_named [] has

    module _ (w : List ℕ) (ws : List (List ℕ)) (has : words (leading NotNewline p.text) ≡ w ∷ ws) where
      pub row_other : bytes_eq w (part_text part) ≡ false → row part place ≡ Err (Wrong (p.passed + 1) (Name part))
      row_other e = row_named (w ∷ ws) has ∙ rw e

      pub row_is : bytes_eq w (part_text part) ≡ true → row part place ≡ Ok (record { value = ws; line = p.passed + 1; after = after_line })
      row_is e = row_named (w ∷ ws) has ∙ rw e

-- the only word of a line
module _ (part : PagePart) (expected : Expected) (place : TextPlace) where
  pub word_stops : (e : TextError) → Err e ≡ row part place → Err e ≡ word_row part expected place
  unfolding word_row
  word_stops e h = then_err _ h

  module _ (r : PageRow (List (List ℕ))) (has : Ok r ≡ row part place) where
    pub word_wrong : (e : TextError) → Err e ≡ only_word expected r.line r.value → Err e ≡ word_row part expected place
    unfolding word_row
    word_wrong e h = then_err _ h ∙ then_ok _ has

    pub word-is : (w : List ℕ) → Ok w ≡ only_word expected r.line r.value → Ok (valued r w) ≡ word_row part expected place
    unfolding word_row
    word-is w h = then_ok _ h ∙ then_ok _ has

-- the value of that word
module _ {X : Type 0} (reads : List ℕ → Option X) (part : PagePart) (expected : Expected) (place : TextPlace) where
  pub value_stops : (e : TextError) → Err e ≡ word_row part expected place → Err e ≡ value_row reads part expected place
  value_stops e h = then_err _ h

  module _ (r : PageRow (List ℕ)) (has : Ok r ≡ word_row part expected place) where
    value_wrong : None ≡ reads r.value → Err (Wrong r.line expected) ≡ value_row reads part expected place
    value_wrong h = then_err _ (ap (λ o. ok_or o (Wrong r.line expected)) h) ∙ then_ok _ has

    pub value-is : (x : X) → Some x ≡ reads r.value → Ok (valued r x) ≡ value_row reads part expected place
    value-is x h = then_ok _ (ap (λ o. ok_or o (Wrong r.line expected)) h) ∙ then_ok _ has

  -- a row's word and what it stands for, if it stands for something
  pub value_with : (r : Row (Bor (List ℕ))) (value : Option X) → Ok (row_of (λ s. s.now) r) ≡ word_row part expected place → value ≡ reads r.value.now →
      value_as (row_of (λ x. x)) (ok_or (option_map (λ x. record { value = x; line = r.line; after = r.after }) value) (Wrong r.line expected)) ≡ value_row reads part expected place
  value_with r None has h = value_wrong (row_of (λ s. s.now) r) has h
  value_with r (Some x) has h = value-is (row_of (λ s. s.now) r) has x h

-- the end of a page
module _ (place p : TextPlace) (is : p ≡ next_place place) where
  pub ending_none : eqb (length p.text) 0 ≡ true → Ok tt ≡ ending place
  unfolding ending
  ending_none e = rw (sym is, e)

  module _ (some : eqb (length p.text) 0 ≡ false) where
    ending_bytes : and_then (number_row Bytes place) (λ r. text_end (next_place r.after)) ≡ ending place
    unfolding ending
    ending_bytes = rw (sym is, some)

    pub ending_stops : (e : TextError) → Err e ≡ number_row Bytes place → Err e ≡ ending place
    ending_stops e h = then_err _ h ∙ ending_bytes

    module _ (r : PageRow ℕ) (has : Ok r ≡ number_row Bytes place) (q : TextPlace) (then : q ≡ next_place r.after) where
      pub ending_wrong : eqb (length q.text) 0 ≡ false → Err (Wrong (q.passed + 1) TextEnd) ≡ ending place
      ending_wrong e =
          let here : Err (Wrong (q.passed + 1) TextEnd) ≡ text_end q = rw e in
          here ∙ (ap text_end then ∙ (then_ok (λ r. text_end (next_place r.after)) has ∙ ending_bytes))

      pub ending-is : eqb (length q.text) 0 ≡ true → Ok tt ≡ ending place
      ending-is e =
          let here : Ok tt ≡ text_end q = rw e in
          here ∙ (ap text_end then ∙ (then_ok (λ r. text_end (next_place r.after)) has ∙ ending_bytes))

-- each word is an item, and nothing is kept of it
abbrev pub passes : {X : Type 0} → (List ℕ → Option X) → Expected → ℕ → List (List ℕ) → TextReading (Unit {0})
passes reads expected line [] = Ok tt
passes reads expected line (w ∷ ws) = and_then (ok_or (reads w) (Wrong line expected)) (λ _. passes reads expected line ws)

-- where each word is an item, the items are those that the words write
module _ {X : Type 0} (reads : List ℕ → Option X) (expected : Expected) (line : ℕ) where
  kept : List (List ℕ) → TextReading (List X)
  kept ws = and_then (passes reads expected line ws) (λ _. Ok (filter_map reads ws))

  one-more : (x : X) (xs : List X) (r : TextReading (Unit {0})) → and_then (and_then r (λ _. Ok xs)) (λ ys. Ok (x ∷ ys)) ≡ and_then r (λ _. Ok (x ∷ xs))
  one-more x xs (Ok u) = refl
  one-more x xs (Err f) = refl

  first-item : (w : List ℕ) (ws : List (List ℕ)) (o : Option X) → reads w ≡ o → each reads expected line ws ≡ kept ws → each reads expected line (w ∷ ws) ≡ kept (w ∷ ws)
  unfolding kept
  first-item w ws None is e = rw is
  first-item w ws (Some x) is e = rw (is, e) (one-more x (filter_map reads ws) (passes reads expected line ws))

  pub each_is : (ws : List (List ℕ)) → each reads expected line ws ≡ and_then (passes reads expected line ws) (λ _. Ok (filter_map reads ws))
  unfolding kept
  each_is [] = refl
  each_is (w ∷ ws) = first-item w ws (reads w) refl (each_is ws)
