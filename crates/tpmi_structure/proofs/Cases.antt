-- A worked example, computed. Assumes nothing.
use Prim.Native.Nat.{ℕ}
use mathlib.Core.Path.{◌≡◌, refl}
use mathlib.Core.List.{List, [], ◌∷◌}
use Rattle.words.specs.Answers.{gives, first}
use Rattle.words.specs.Bytes.{number_at}
use Rattle.fields.specs.Bits.{field}
use Rattle.tpmi_structure.specs.Structure.{vsec_of, vsec_at, fixed_wrong, read_number, read_of}

-- document 01's structure: 2 entries, tBIR 1, the table at 2,048
abbrev pub sample : List ℕ
sample = 0x0B ∷ 0x00 ∷ 0x01 ∷ 0x00 ∷ 0x42 ∷ 0x00 ∷ 0x01 ∷ 0x01 ∷ 0x00 ∷ 0x00 ∷ 0x02 ∷ 0x02 ∷ 0x01 ∷ 0x08 ∷ 0x00 ∷ 0x00 ∷ []

sample_read : read_of sample ≡ gives (0x0B ∷ 1 ∷ 0 ∷ 0x42 ∷ 1 ∷ 0x10 ∷ 0 ∷ 2 ∷ 2 ∷ 1 ∷ 2048 ∷ [])
unfolding read_of read_number first fixed_wrong vsec_at vsec_of field number_at
sample_read = refl
