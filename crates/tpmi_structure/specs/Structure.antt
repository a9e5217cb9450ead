-- The VSEC structure of 16 bytes (document 01, "Walk and VSEC"; document 000, "VSEC Structure"). Document 01 is stricter than
-- 000: a structure alone is refused where a fixed field is wrong. The table offset is the last word with its three low bits cleared.
--   widths           the structure's fields from bit 0 up, reserved ones too: six in the low word, five in the high one
--   vsec_of x         the structure that a number of 128 bits holds
--   vsec_at s at      the structure in the 16 bytes at a place
--   values v         its numbers in the order of the table, as they stand in the fields
--   fixed_wrong v     a fixed field is not what it must be
--   too_wide v        a number is too wide for its field, or the offset is not a multiple of 8
--   read_of s         a structure handed alone: 25, then 5, else all its numbers
--   write_number s v  what writing it answers: 25, then 5, then 17, 0 where it is accepted
--   written s v      what the part holds then: the 16 bytes, and the rest as it was; all as it was where it is refused
-- Assumes nothing.
use Rattle.std.specs.Prelude.{ℕ, ◌*◌, ◌/◌, ◌%◌, Bool, not, ◌||◌, List, [], ◌∷◌, ◌++◌, ltb, eqb, length}
use Rattle.words.specs.Answers.{Answer, gives, unless, first}
use Rattle.words.specs.Bytes.{number_at}
use Rattle.fields.specs.Bits.{field}
use Rattle.fields.specs.Tables.{wider, written_unless}
use Rattle.tpmi_structure.specs.declared.structure.Vsec.{Vsec}

-- identifier, capability version, next, VSEC_ID, VSEC_REV, VSEC_LEN
abbrev pub low_widths : List ℕ
low_widths = 16 ∷ 4 ∷ 12 ∷ 16 ∷ 4 ∷ 12 ∷ []

-- reserved, NumEntries, EntrySize, tBIR, and the offset without its three low bits
abbrev pub high_widths : List ℕ
high_widths = 16 ∷ 8 ∷ 8 ∷ 3 ∷ 29 ∷ []

abbrev pub widths : List ℕ
widths = low_widths ++ high_widths

unfoldable pub vsec_of : ℕ → Vsec
vsec_of x =
    record {
      identifier = field 0 16 x;
      version = field 16 4 x;
      next = field 20 12 x;
      id = field 32 16 x;
      revision = field 48 4 x;
      size = field 52 12 x;
      reserved = field 64 16 x;
      entries = field 80 8 x;
      words = field 88 8 x;
      bir = field 96 3 x;
      offset = field 99 29 x * 8;
    }

unfoldable pub vsec_at : List ℕ → ℕ → Vsec
vsec_at s at = vsec_of (number_at s at 16)

abbrev pub low_values : Vsec → List ℕ
low_values v = v.identifier ∷ v.version ∷ v.next ∷ v.id ∷ v.revision ∷ v.size ∷ []

abbrev pub high_values : Vsec → List ℕ
high_values v = v.reserved ∷ v.entries ∷ v.words ∷ v.bir ∷ v.offset / 8 ∷ []

abbrev pub values : Vsec → List ℕ
values v = low_values v ++ high_values v

unfoldable pub fixed_wrong : Vsec → Bool
fixed_wrong v =
    not (eqb v.identifier 0x000B) || (not (eqb v.version 1) || (not (eqb v.id 0x42)
    || (not (eqb v.revision 1) || (not (eqb v.size 0x10) || not (eqb v.words 2)))))

-- the numbers that are free, and the bits that each may take: next, reserved, NumEntries, tBIR, and the offset in bytes
abbrev pub free_widths : List ℕ
free_widths = 12 ∷ 16 ∷ 8 ∷ 3 ∷ 32 ∷ []

abbrev pub free_values : Vsec → List ℕ
free_values v = v.next ∷ v.reserved ∷ v.entries ∷ v.bir ∷ v.offset ∷ []

unfoldable pub too_wide : Vsec → Bool
too_wide v = wider free_widths (free_values v) || not (eqb (v.offset % 8) 0)

-- the numbers that a caller is given, the offset in bytes
abbrev pub numbers : Vsec → List ℕ
numbers v = low_values v ++ v.reserved ∷ v.entries ∷ v.words ∷ v.bir ∷ v.offset ∷ []

unfoldable pub read_number : List ℕ → ℕ
read_number s = first ((ltb (length s) 16, 25) ∷ (fixed_wrong (vsec_at s 0), 5) ∷ [])

unfoldable pub read_of : List ℕ → Answer
read_of s = unless (read_number s) (gives (numbers (vsec_at s 0)))

unfoldable pub write_number : List ℕ → Vsec → ℕ
write_number s v = first ((ltb (length s) 16, 25) ∷ (fixed_wrong v, 5) ∷ (too_wide v, 17) ∷ [])

unfoldable pub written : List ℕ → Vsec → List ℕ
written s v = written_unless (write_number s v) 16 widths (values v) s
