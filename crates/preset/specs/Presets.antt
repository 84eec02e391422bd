-- Presets: what one holds, and how it is read. Assumes nothing.
use Rattle.std.specs.Prelude.{ℕ, suc, ◌+◌, ◌-◌, ◌^◌, cond, ◌&&◌, List, [], ◌∷◌, length, None, Ok, Err, Option, Result, nat_le}
use Rattle.std.specs.Option.{ok_or, option_map}
use Rattle.fault.specs.declared.Stop.TheVariants.{UnknownKind, BadAlphabet, BadWindow, BadReach, BadWidth, TooManyWords, SurplusBytes, ShortStrip}
use Rattle.fault.specs.Limits.{least_letters, most_letters, most_window, most_width, most_words, few_words, word_count, within}
use Rattle.fault.specs.Refusals.{Refusal, refused_at}
use Rattle.charge.specs.declared.kind.ChargeKind.{ChargeKind}
use Rattle.charge.specs.Numbers.{number_of, kind_of}
use Rattle.fault.specs.Answers.{and_then}
use Rattle.preset.specs.declared.entry.Entry.{Entry}
use Rattle.preset.specs.declared.header.Header.{Header}
use Rattle.preset.specs.Answers.{Parse, many}
use Rattle.preset.specs.Entries.{letter, entry}
use Rattle.preset.specs.Fields.{field}
use Rattle.preset.specs.Numbers.{number_read}

-- how many words of m letters there are, where the alphabet size and m are in range and the words are few
abbrev pub item_count : ℕ → ℕ → ℕ → Option ℕ
item_count most q m = cond (within 1 (suc most) m) (word_count q m) None

-- a header with the kind that it names
pub record PresetHead : Type 0 where
  pub kind : ChargeKind
  pub header : Header

-- what a preset holds: its header, the rule's letters and the density's entries
pub record Preset : Type 0 where
  pub head : PresetHead
  pub letters : List ℕ
  pub entries : List Entry

-- the kind at the front of bs, the last bytes of an input of `whole` bytes
abbrev pub kind_read : ℕ → List ℕ → Parse ChargeKind
kind_read whole bs =
    and_then (number_read (whole - length bs) bs) (λ p.
    ok_or (option_map (λ kind. (kind, p.1)) (kind_of p.0)) (refused_at UnknownKind (whole - length bs)))

-- the five numbers of a header; too many words are refused at the width
abbrev pub head_read : ℕ → List ℕ → Parse PresetHead
head_read whole bs =
    and_then (kind_read whole bs) (λ kind.
    and_then (field whole least_letters (suc most_letters) BadAlphabet kind.1) (λ q.
    and_then (field whole 1 (suc most_window) BadWindow q.1) (λ n.
    and_then (field whole 0 n.0 BadReach n.1) (λ l.
    and_then (field whole 1 (suc most_width) BadWidth l.1) (λ k.
    cond (few_words q.0 (n.0 + k.0 - 1))
    (Ok (record { kind = kind.0; header = record { kind = number_of kind.0; q = q.0; n = n.0; l = l.0; k = k.0 } }, k.1))
    (Err (refused_at TooManyWords (whole - length l.1))))))))

-- the letters and the entries that follow a header
abbrev pub letters_read : ℕ → PresetHead → List ℕ → Parse (List ℕ)
letters_read whole h bs = many (letter h.header.q whole) (h.header.q ^ h.header.n) bs

abbrev pub entries_read : ℕ → PresetHead → List ℕ → Parse (List Entry)
entries_read whole h bs = many (entry h.kind whole) (h.header.q ^ h.header.k) bs

-- the preset at the front of an input
abbrev pub preset : List ℕ → Parse Preset
preset bs =
    and_then (head_read (length bs) bs) (λ h.
    and_then (letters_read (length bs) h.0 h.1) (λ ls.
    and_then (entries_read (length bs) h.0 ls.1) (λ es.
    Ok (record { head = h.0; letters = ls.0; entries = es.0 }, es.1))))

-- an input that is one preset and no more
abbrev pub nothing_after : ℕ → Preset × List ℕ → Result Preset Refusal
nothing_after whole (p, []) = Ok p
nothing_after whole (p, b ∷ bs) = Err (refused_at SurplusBytes (whole - length (b ∷ bs)))

abbrev pub whole_preset : List ℕ → Result Preset Refusal
whole_preset bs = and_then (preset bs) (nothing_after (length bs))

-- Reading into two strips, which have to be long enough for the largest preset: first with the bytes after the
-- preset, then without any.
abbrev pub with_strip_room : {X : Type 0} → ℕ → ℕ → Result X Refusal → Result X Refusal
with_strip_room letters entries r = cond (nat_le most_words letters && nat_le most_words entries) r (Err (refused_at ShortStrip 0))

abbrev pub reading : List ℕ → List Entry → List ℕ → Parse Preset
reading letters entries bs = with_strip_room (length letters) (length entries) (preset bs)

abbrev pub whole_reading : List ℕ → List Entry → List ℕ → Result Preset Refusal
whole_reading letters entries bs = with_strip_room (length letters) (length entries) (whole_preset bs)

-- the header of what was read
abbrev pub header_of : Result Preset Refusal → Result Header Refusal
header_of r = and_then r (λ p. Ok p.head.header)

abbrev pub header_and_rest : Parse Preset → Parse Header
header_and_rest r = and_then r (λ y. Ok (y.0.head.header, y.1))
