-- What is proved of the write of one field of a cluster's register, for every number, instance and capture. Each is to be read without its
-- proof; the proofs stand under the same names with underscores: proofs/ControlNextFact.antt, proofs/ControlWriteFact.antt,
-- proofs/ControlReadBack.antt.
-- Assumes nothing.
use Rattle.std.specs.Prelude.{ℕ, ◌+◌, ◌^◌, ◌≤◌, ◌<◌, ◌≡◌, List, [], ◌∷◌, ◌⊎◌, ◌↔◌, ◌≢◌}
use Rattle.words.specs.Answers.{refused, gives}
use Rattle.words.specs.Bytes.{AllBytes, number_at}
use Rattle.capture.specs.Capture.{Capture}
use Rattle.tpmi_discovery.specs.Table.{bar_of}
use Rattle.tpmi_features.specs.Instances.{instance_number, instance_part}
use Rattle.tpmi_registers.specs.Registers.{register_of}
use Rattle.tpmi_store.specs.Store.{after_store}
use Rattle.tpmi_store.specs.Facts.{Within, FieldStoredIn}
use Rattle.uncore_clusters.specs.Clusters.{place_number}
use Rattle.uncore_clusters.specs.Facts.{Unnamed, Inside}
use Rattle.uncore_lookups.specs.Fabric.{clusters_for, global_for, place_for, content_for}
use Rattle.uncore_permits.specs.ControlFields.{lowest_of, width_of}
use Rattle.uncore_permits.specs.Facts.{Writable, ARatio, Ordered}
use Rattle.uncore_writes.specs.ControlNext.{next_content, next_of, next_for}
use Rattle.uncore_writes.specs.ControlWrite.{write_number, offset_for, written_place, left, bar_left}

-- ---- what the register holds next

-- Complete and first wins: after the lookup, 17 then 14, the write's own 27, 17, 28; each number exactly on its condition and none tested
-- before it, and the next content exactly where none is. (Unnamed, Inside: crate uncore_clusters, specs/Facts; Writable, ARatio, Ordered:
-- uncore_permits.)
pub record ControlNextFact (s : List ℕ) (die n r which value : ℕ) : Type 0 where
  pub handed_on : place_number s die n r ≢ 0 → next_of s die n r which value ≡ refused (place_number s die n r)
  pub unwritable : (next_of s die n r which value ≡ refused 27) ↔ ((place_number s die n r ≡ 0) × (Writable r which → ⊥))
  pub seventeen : (next_of s die n r which value ≡ refused 17)
      ↔ (Unnamed s die n r ⊎ ((place_number s die n r ≡ 0) × (Writable r which × (2 ^ width_of r which ≤ value))))
  pub fourteen : (next_of s die n r which value ≡ refused 14) ↔ ((Unnamed s die n r → ⊥) × (Inside s n r → ⊥))
  pub crossed : (next_of s die n r which value ≡ refused 28)
      ↔ ((place_number s die n r ≡ 0) × (Writable r which × (value < 2 ^ width_of r which) × ARatio r which × (Ordered (next_content s n r which value) → ⊥)))
  pub content : (y : ℕ) → (next_of s die n r which value ≡ gives (y ∷ []))
      ↔ ((place_number s die n r ≡ 0)
      × (Writable r which × (value < 2 ^ width_of r which) × (ARatio r which → Ordered (next_content s n r which value)) × (next_content s n r which value ≡ y)))

-- ---- the write

-- The next content over a capture: the instance's refusal is handed on, else it is said of the instance's bytes. A refused write leaves
-- the capture as it was. A permitted one is the one store of the next content, in 8 bytes that lie inside the instance and past its header:
-- what both BAR captures then hold, that the place reads back, that no other byte changes and that every lookup which does not read these
-- bytes answers as before is said of every such store (`Stores` of the crate tpmi_store). The answer is that of the next content.
pub record ControlCaptures (c : Capture) (i die n r which value : ℕ) : Type 0 where
  pub handed_on : instance_number c 2 i ≢ 0 → next_for c i die n r which value ≡ refused (instance_number c 2 i)
  pub shown : instance_number c 2 i ≡ 0 → next_for c i die n r which value ≡ next_of (instance_part c 2 i) die n r which value
  pub refused_kept : write_number c i die n r which value ≢ 0 → left c i die n r which value ≡ c
  pub permitted_stored : write_number c i die n r which value ≡ 0
      → left c i die n r which value ≡ after_store c 2 i (offset_for c i n r) (next_content (instance_part c 2 i) n r which value)
  pub within : write_number c i die n r which value ≡ 0 → Within c 2 i (offset_for c i n r) × (8 ≤ offset_for c i n r)
  pub same_answer : (write_number c i die n r which value ≡ 0) ↔ ((y : ℕ) × (next_for c i die n r which value ≡ gives (y ∷ [])))
  pub same_number : (m : ℕ) → m ≢ 0 → (write_number c i die n r which value ≡ m) ↔ (next_for c i die n r which value ≡ refused m)

-- What a permitted write leaves in the BAR capture: the field reads back as the number, every other bit of the register and every other
-- byte of the capture is as it was (`FieldStoredIn` of the crate tpmi_store). (That the BAR capture is a list of bytes is what its type
-- says.)
abbrev pub ControlWriteFact : Capture → ℕ → ℕ → ℕ → ℕ → ℕ → ℕ → Type 0
ControlWriteFact c i die n r which value = AllBytes (bar_of c) → write_number c i die n r which value ≡ 0
    → FieldStoredIn (bar_left c i die n r which value) c 2 i (offset_for c i n r) (lowest_of r which) (width_of r which) value

-- The two ratios: after a permitted write of one the register's minimum is at most its maximum; and no write, refused or not, leaves a pair in
-- disorder that was in order: that of the written control register, and that of any 8 bytes which share none with the written ones. Not
-- covered, since no rule forbids it: a control that shares its bytes with another cluster's advanced control (offsets that differ by 1 or 2),
-- which a write of that one can put in disorder, and a cluster that such a write to the offset register moves (worked cases: proofs/Cases).
pub record OrderFact (c : Capture) (i die n r which value : ℕ) : Type 0 where
  pub ordered : AllBytes (bar_of c) → write_number c i die n r which value ≡ 0 → ARatio r which → Ordered (number_at (bar_left c i die n r which value) (written_place c i n r) 8)
  pub kept : AllBytes (bar_of c) → (q : ℕ)
      → ((q ≡ written_place c i n r) × (r ≡ 3)) ⊎ ((q + 8 ≤ written_place c i n r) ⊎ (written_place c i n r + 8 ≤ q))
      → Ordered (number_at (bar_of c) q 8) → Ordered (number_at (bar_left c i die n r which value) q 8)

-- ---- read back by the meter's own calls, in the capture that a permitted write leaves

-- the offset register is not among the written bytes: it is where a cluster with offset 0 has its control
abbrev pub ClearOfOffsets : Capture → ℕ → ℕ → ℕ → Type 0
ClearOfOffsets c i n r = 16 ≤ offset_for c i n r

-- Every count of clusters and every global fabric number is as before, and the register at the written place is read as the next content. Of
-- another instance every place and content is as before. Where the offset register is not among the written bytes, the written register is
-- found where it was and read as the next content, every register is found where it was, and every register that stands elsewhere is read as
-- before.
pub record ControlReadsBack (c : Capture) (i die n r which value : ℕ) : Type 0 where
  pub at_place : register_of (left c i die n r which value) 2 i (offset_for c i n r) ≡ gives (next_content (instance_part c 2 i) n r which value ∷ [])
  pub clusters : (i' : ℕ) → clusters_for (left c i die n r which value) i' ≡ clusters_for c i'
  pub global : (i' die' n' : ℕ) → global_for (left c i die n r which value) i' die' n' ≡ global_for c i' die' n'
  pub other_place : (i' die' n' r' : ℕ) → i ≢ i' → place_for (left c i die n r which value) i' die' n' r' ≡ place_for c i' die' n' r'
  pub other_content : (i' die' n' r' : ℕ) → i ≢ i' → content_for (left c i die n r which value) i' die' n' r' ≡ content_for c i' die' n' r'
  pub content : ClearOfOffsets c i n r → content_for (left c i die n r which value) i die n r ≡ gives (next_content (instance_part c 2 i) n r which value ∷ [])
  pub place : ClearOfOffsets c i n r → (die' n' r' : ℕ) → place_for (left c i die n r which value) i die' n' r' ≡ place_for c i die' n' r'
  pub elsewhere : ClearOfOffsets c i n r → (die' n' r' : ℕ) → offset_for c i n r ≢ offset_for c i n' r'
      → content_for (left c i die n r which value) i die' n' r' ≡ content_for c i die' n' r'

abbrev pub ControlReadBack : Capture → ℕ → ℕ → ℕ → ℕ → ℕ → ℕ → Type 0
ControlReadBack c i die n r which value = AllBytes (bar_of c) → write_number c i die n r which value ≡ 0 → ControlReadsBack c i die n r which value
