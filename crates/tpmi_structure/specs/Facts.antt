-- What is proved of the structure, for every list of bytes and every value. Each is to be read without its proof;
-- proofs/Theorems.antt has a proof of each, under the same name with underscores.
-- Assumes nothing.
use Rattle.std.specs.Prelude.{ℕ, ◌%◌, ◌≤◌, ◌<◌, ◌≡◌, ◌↔◌, false, List, length}
use Rattle.fields.specs.Facts.{ValueTrips}
use Rattle.tpmi_structure.specs.Structure.{vsec_at, fixed_wrong, too_wide, read_number, write_number, written}
use Rattle.tpmi_structure.specs.declared.structure.Vsec.{Vsec}

-- the six fixed fields, each as it must be
pub record Fixed (v : Vsec) : Type 0 where
  pub identifier : v.identifier ≡ 0x000B
  pub version : v.version ≡ 1
  pub id : v.id ≡ 0x42
  pub revision : v.revision ≡ 1
  pub size : v.size ≡ 0x10
  pub words : v.words ≡ 2

-- the other five, each within its width, and the offset a multiple of 8
pub record Narrow (v : Vsec) : Type 0 where
  pub next : v.next ≤ 0xFFF
  pub reserved : v.reserved ≤ 0xFFFF
  pub entries : v.entries ≤ 255
  pub bir : v.bir ≤ 7
  pub offset : v.offset ≤ 0xFFFFFFFF
  pub multiple : v.offset % 8 ≡ 0

-- The two tests decide these.
pub record StructureTests (v : Vsec) : Type 0 where
  pub fixed : (fixed_wrong v ≡ false) ↔ Fixed v
  pub narrow : (too_wide v ≡ false) ↔ Narrow v

-- Reading and writing, each number exactly on its condition and none tested before it.
pub record StructureAnswers (s : List ℕ) (v : Vsec) : Type 0 where
  pub read_short : (read_number s ≡ 25) ↔ (length s < 16)
  pub read_wrong : (read_number s ≡ 5) ↔ ((16 ≤ length s) × (Fixed (vsec_at s 0) → ⊥))
  pub read_right : (read_number s ≡ 0) ↔ ((16 ≤ length s) × Fixed (vsec_at s 0))
  pub write_short : (write_number s v ≡ 25) ↔ (length s < 16)
  pub write_wrong : (write_number s v ≡ 5) ↔ ((16 ≤ length s) × (Fixed v → ⊥))
  pub write_wide : (write_number s v ≡ 17) ↔ ((16 ≤ length s) × Fixed v × (Narrow v → ⊥))
  pub write_right : (write_number s v ≡ 0) ↔ ((16 ≤ length s) × Fixed v × Narrow v)

-- The structure at the start of a part, and its round trips; whatever was read and accepted can be written where there is room.
abbrev pub structure_in : List ℕ → Vsec
structure_in s = vsec_at s 0

pub record StructureTrips (s : List ℕ) : Type 0 where
  pub accepted : read_number s ≡ 0 → (z : List ℕ) → 16 ≤ length z → write_number z (structure_in s) ≡ 0
  pub trips : ValueTrips 16 structure_in write_number written s
