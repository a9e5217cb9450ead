-- A PFS entry of 8 bytes (document 01, "PFS and register places"; document 000, "PM Feature Structure"). Any identifier and any
-- attribute passes; an entry alone has no fixed field, so 5 is never given.
--   widths            the entry's fields from bit 0 up, the reserved one too
--   entry_of x         the entry that a number of 64 bits holds
--   entry_at s at      the entry in the 8 bytes at a place
--   values e          its numbers in the order of the table
--   read_of s          an entry handed alone: 25, else its numbers
--   write_number s e   what writing it answers: 25, then 17, 0 where it is accepted
--   written s e       what the part holds then: the 8 bytes, and the rest as it was; all as it was where it is refused
-- Assumes nothing.
use Rattle.std.specs.Prelude.{ℕ, List, [], ◌∷◌, ltb, length}
use Rattle.words.specs.Answers.{Answer, gives, unless, first}
use Rattle.words.specs.Bytes.{number_at}
use Rattle.fields.specs.Bits.{field}
use Rattle.fields.specs.Tables.{wider, written_unless}
use Rattle.tpmi_entries.specs.declared.entry.Entry.{Entry}

-- TPMI_ID, NumEntries, EntrySize, CapOffset, Attribute, reserved
abbrev pub widths : List ℕ
widths = 8 ∷ 8 ∷ 16 ∷ 16 ∷ 2 ∷ 14 ∷ []

unfoldable pub entry_of : ℕ → Entry
entry_of x =
    record {
      id = field 0 8 x;
      instances = field 8 8 x;
      words = field 16 16 x;
      offset = field 32 16 x;
      attribute = field 48 2 x;
      reserved = field 50 14 x;
    }

unfoldable pub entry_at : List ℕ → ℕ → Entry
entry_at s at = entry_of (number_at s at 8)

abbrev pub values : Entry → List ℕ
values e = e.id ∷ e.instances ∷ e.words ∷ e.offset ∷ e.attribute ∷ e.reserved ∷ []

unfoldable pub read_of : List ℕ → Answer
read_of s = unless (first ((ltb (length s) 8, 25) ∷ [])) (gives (values (entry_at s 0)))

unfoldable pub write_number : List ℕ → Entry → ℕ
write_number s e = first ((ltb (length s) 8, 25) ∷ (wider widths (values e), 17) ∷ [])

unfoldable pub written : List ℕ → Entry → List ℕ
written s e = written_unless (write_number s e) 8 widths (values e) s
