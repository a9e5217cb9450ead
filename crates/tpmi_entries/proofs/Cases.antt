-- Document 01's first entry, RAPL, computed. Assumes nothing.
use Prim.Native.Nat.{ℕ}
use mathlib.Core.Path.{◌≡◌, refl}
use mathlib.Core.List.{List, [], ◌∷◌}
use Rattle.words.specs.Answers.{gives, first}
use Rattle.words.specs.Bytes.{number_at}
use Rattle.fields.specs.Bits.{field}
use Rattle.tpmi_entries.specs.Entry.{entry_of, entry_at, read_of}

abbrev pub rapl : List ℕ
rapl = 0x00 ∷ 0x01 ∷ 0x60 ∷ 0x00 ∷ 0x04 ∷ 0x00 ∷ 0x01 ∷ 0x00 ∷ []

-- one instance of 0x60 words, 4 KiB from the table, for the operating system
rapl_read : read_of rapl ≡ gives (0 ∷ 1 ∷ 0x60 ∷ 4 ∷ 1 ∷ 0 ∷ [])
unfolding read_of first entry_at entry_of number_at field
rapl_read = refl
