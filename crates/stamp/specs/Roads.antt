-- Register places over the whole meter (document 01, "PFS and register places"): the place formula in document 01's own terms, and that
-- the roads to a register of a domain (the domain's register, the register lookup of feature 0, the write of a limit) lead to one place.
--   Stands c id k      entry k of the table is the feature: it is not empty and has its identifier
--   place_by c e i at   document 01's formula, of an instance's register at an offset, by the feature's entry
--   domain_offset n r   where register r of domain n stands in an instance
--   StoreBounds        the supposition of `Stores` at its bounds, a worked case
-- The theorems' proofs are in proofs/Roads.antt, under the same names with underscores.
-- Assumes nothing.
use Rattle.std.specs.Prelude.{ℕ, ◌+◌, ◌-◌, ◌*◌, ◌^◌, ◌<◌, ◌≡◌, ◌≢◌, [], ◌∷◌}
use Rattle.words.specs.Answers.{gives}
use Rattle.tpmi_entries.specs.declared.entry.Entry.{Entry}
use Rattle.capture.specs.Capture.{Capture}
use Rattle.tpmi_discovery.specs.Table.{bir_of, table_of, entries_of}
use Rattle.tpmi_features.specs.Entries.{entry_there}
use Rattle.tpmi_features.specs.Instances.{instance_number}
use Rattle.tpmi_registers.specs.Registers.{register_number, register_place_of, register_of}
use Rattle.rapl_lookups.specs.Lookups.{content_for}
use Rattle.tpmi_store.specs.Store.{after_store}
use Rattle.tpmi_store.specs.Facts.{Within}
use Rattle.rapl_writes.specs.Write.{write_number, limit_place}
use Rattle.stamp.specs.Table.{board}

pub record Stands (c : Capture) (id k : ℕ) : Type 0 where
  pub in_table : k < entries_of c
  pub identifier : (entry_there c k).id ≡ id
  pub instances : (entry_there c k).instances ≢ 0
  pub words : (entry_there c k).words ≢ 0

-- table offset + CapOffset × 1,024 + instance × EntrySize × 4 + offset
abbrev pub place_by : Capture → Entry → ℕ → ℕ → ℕ
place_by c e i at = table_of c + e.offset * 1024 + i * e.words * 4 + at

abbrev pub domain_offset : ℕ → ℕ → ℕ
domain_offset n r = 128 * n + 8 * r

-- A register that is found stands where document 01's formula says, by the entry that is its feature; and there is one.
pub record FormulaFact (c : Capture) (id i at : ℕ) : Type 0 where
  pub stands : register_number c id i at ≡ 0 → (k : ℕ) × Stands c id k
  pub place : register_number c id i at ≡ 0 → (k : ℕ) → Stands c id k
      → register_place_of c id i at ≡ gives (bir_of c ∷ place_by c (entry_there c k) i at ∷ 8 ∷ 1 ∷ [])

-- Where register r of domain n is read as x, the register lookup of feature 0 at 128 × n + 8 × r reads x too, at the formula's place. A
-- permitted write of a limit stores at the place that this lookup gives for register limit + 1, again the formula's.
pub record RoadsFact (c : Capture) (i n : ℕ) : Type 0 where
  pub content : (r x : ℕ) → content_for c i n r ≡ gives (x ∷ []) → register_of c 0 i (domain_offset n r) ≡ gives (x ∷ [])
  pub place : (r x : ℕ) → content_for c i n r ≡ gives (x ∷ []) → (k : ℕ) → Stands c 0 k
      → register_place_of c 0 i (domain_offset n r) ≡ gives (bir_of c ∷ place_by c (entry_there c k) i (domain_offset n r) ∷ 8 ∷ 1 ∷ [])
  pub limit_place_law : (limit which value : ℕ) → write_number c i n limit which value ≡ 0
      → register_place_of c 0 i (domain_offset n (limit + 1)) ≡ gives (bir_of c ∷ limit_place c i n limit ∷ 8 ∷ 1 ∷ [])
  pub limit_formula : (limit which value : ℕ) → write_number c i n limit which value ≡ 0 → (k : ℕ) → Stands c 0 k
      → limit_place c i n limit ≡ place_by c (entry_there c k) i (domain_offset n (limit + 1))

-- The supposition of `Stores` (crate tpmi_store) is met at its bounds: of the board's one instance of 384 bytes the first 8 bytes, the last
-- 8 and any between are within it, and none after these. And what is as before is not more than that: ones stored in the first 8 bytes make it invalid.
pub record StoreBounds : Type 0 where
  pub first : Within board 0 0 0
  pub last : Within board 0 0 376
  pub odd : Within board 0 0 3
  pub past : Within board 0 0 377 → ⊥
  pub invalid : instance_number (after_store board 0 0 0 (2 ^ 64 - 1)) 0 0 ≡ 13
