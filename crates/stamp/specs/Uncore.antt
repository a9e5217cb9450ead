-- A worked capture of feature 2 (document 02, request 2), by which the suppositions of the control write's theorems are met at their bounds, and by
-- which a write that writes nothing falls.
--   mesh               one instance of 80 bytes with two clusters: the first starts at byte 8, so that its control stands at 16, just past the
--                      offset register; of the second the second advanced control, all ones, is the instance's last 8 bytes
--   ControlStoresOf    what a permitted write must leave in the BAR capture, of any function in the place of ours
--   MeshBounds         what is proved
-- The proof is in proofs/Uncore.antt, under the same name with underscores.
-- Assumes nothing.
use Rattle.std.specs.Prelude.{ℕ, ◌+◌, ◌≡◌, ◌≢◌, List, [], ◌∷◌, ◌++◌, replicate}
use Rattle.words.specs.Answers.{gives}
use Rattle.words.specs.Bytes.{AllBytes}
use Rattle.capture.specs.Capture.{Capture, captured}
use Rattle.tpmi_discovery.specs.Table.{bar_of}
use Rattle.tpmi_features.specs.Instances.{size_for}
use Rattle.tpmi_store.specs.Facts.{FieldStoredIn}
use Rattle.uncore_lookups.specs.Fabric.{clusters_for}
use Rattle.uncore_permits.specs.ControlFields.{lowest_of, width_of}
use Rattle.uncore_writes.specs.ControlWrite.{write_number, offset_for, bar_left}
use Rattle.stamp.specs.Table.{config}

-- the table at 2,048: TPMI_ID 2, 1 instance of 20 words, 4 KiB from the table; and an empty entry
abbrev pub mesh : Capture
mesh =
    captured config 0 [] 1
    (replicate 2048 0 ++ 2 ∷ 1 ∷ 20 ∷ 0 ∷ 4 ∷ 0 ∷ 1 ∷ 0 ∷ replicate 4088 0 ++ 1 ∷ 3 ∷ replicate 6 0 ++ 1 ∷ 6 ∷ replicate 6 0 ++ 1 ∷ 127 ∷ replicate 54 0 ++ replicate 8 255)

-- a write is asked of instance i, die, cluster n, register and field, with a number
abbrev pub OfAControlWrite : Type 0 → Type 0
OfAControlWrite A = (c : Capture) (i die n r which value : ℕ) → A

abbrev pub ControlStoresOf : OfAControlWrite (List ℕ) → Type 0
ControlStoresOf left = (c : Capture) (i die n r which value : ℕ) → AllBytes (bar_of c) → write_number c i die n r which value ≡ 0
    → FieldStoredIn (left c i die n r which value) c 2 i (offset_for c i n r) (lowest_of r which) (width_of r which) value

-- Permitted writes at both bounds: in the 8 bytes just past the offset register, and in the instance's last 8, for the last die; beside them 17 for the
-- next die, and 28. What a write leaves that writes no field is not what it must leave.
pub record MeshBounds : Type 0 where
  pub bytes : AllBytes (bar_of mesh)
  pub clusters : clusters_for mesh 0 ≡ gives (2 ∷ [])
  pub first : (write_number mesh 0 0 0 3 2 127 ≡ 0) × (offset_for mesh 0 0 3 ≡ 16)
  pub last : (write_number mesh 0 255 1 5 3 0 ≡ 0) × (offset_for mesh 0 1 5 + 8 ≡ size_for mesh 2)
  pub refused : (write_number mesh 0 256 1 5 3 0 ≡ 17) × (write_number mesh 0 0 1 3 2 1 ≡ 28)
  pub ours_stores : ControlStoresOf bar_left
  pub writes_no_field : (left : OfAControlWrite (List ℕ)) → ControlStoresOf left → left mesh 0 0 0 3 2 127 ≢ bar_of mesh
