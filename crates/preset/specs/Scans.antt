-- What is known of a preset once it is checked, before anything is written. Assumes nothing.
use Rattle.std.specs.Prelude.{◌≡◌, ℕ, ◌^◌, ◌≤◌, List, length, Ok}
use Rattle.preset.specs.declared.entry.Entry.{Entry}
use Rattle.preset.specs.declared.header.Head.{Head}
use Rattle.preset.specs.declared.header.Header.{Header}
use Rattle.preset.specs.declared.reader.Scan.{Scan}
use Rattle.preset.specs.Answers.{skipped}
use Rattle.preset.specs.Heads.{head_of}
use Rattle.preset.specs.Presets.{head_read, letters_read, entries_read}
use Rattle.preset.specs.Writes.{preset_to_write, header_fronts}

-- the letters, the entries and the rest of an input begin where a scan says, and all letters and entries are there
pub record Scanned (bs : List ℕ) (s : Scan) : Type 0 where
  pub head : head_read (length bs) bs ≡ Ok (head_of s.head, s.letters.bytes.now)
  pub letters : skipped (letters_read (length bs) (head_of s.head) s.letters.bytes.now) ≡ Ok (tt, s.entries.bytes.now)
  pub entries : skipped (entries_read (length bs) (head_of s.head) s.entries.bytes.now) ≡ Ok (tt, s.rest.bytes.now)
  pub letters_whole : s.letters.whole ≡ length bs
  pub entries_whole : s.entries.whole ≡ length bs
  pub rest_whole : s.rest.whole ≡ length bs

-- a header and two strips that pass every test but the byte strip's
pub record Writable (h : Header) (letters : List ℕ) (entries : List Entry) (head : Head) : Type 0 where
  pub is : preset_to_write h letters entries ≡ Ok (header_fronts (head_of head) letters entries)
  pub same : head.header ≡ h
  pub letter_room : h.q ^ h.n ≤ length letters
  pub entry_room : h.q ^ h.k ≤ length entries
