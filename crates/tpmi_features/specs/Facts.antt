-- What is proved of the lookups over an accepted capture, for every capture. Each is to be read without its proof; proofs/LookupFact.antt,
-- proofs/Apart.antt and proofs/EntryFact.antt have the proofs, under the same names with underscores.
-- Assumes nothing.
use Rattle.std.specs.Prelude.{ℕ, ◌+◌, ◌*◌, ◌≤◌, ◌<◌, ◌≡◌, ◌↔◌, ◌≢◌, List, [], length, get_or, take, drop}
use Rattle.words.specs.Answers.{refused, gives}
use Rattle.words.specs.Bytes.{AllBytes}
use Rattle.tpmi_entries.specs.Entry.{entry_at, values}
use Rattle.tpmi_banks.specs.Faults.{bank_in}
use Rattle.tpmi_banks.specs.Facts.{Filled, Shared}
use Rattle.capture.specs.Capture.{Capture}
use Rattle.tpmi_discovery.specs.Table.{bar_of, table_of, entries_of}
use Rattle.tpmi_discovery.specs.Discovery.{discovery_number}
use Rattle.tpmi_features.specs.Instances.{bank_for, size_for, feature_number, start_for, instance_number, instance_part}
use Rattle.tpmi_features.specs.Entries.{entry_for}

-- some entry is the feature
abbrev pub Has : Capture → ℕ → Type 0
Has c id = (k : ℕ) × (k < entries_of c) × Filled (bank_in (bar_of c) (table_of c) k) × ((bank_in (bar_of c) (table_of c) k).id ≡ id)

-- the 8 bytes at a place of the BAR capture are all ones
abbrev pub Ones : Capture → ℕ → Type 0
Ones c at = (k : ℕ) → k < 8 → get_or (bar_of c) (at + k) 0 ≡ 255

-- Each number exactly on its condition and none tested before it. (That the BAR capture is a list of bytes is what its type says.)
pub record LookupFact (c : Capture) (id n : ℕ) : Type 0 where
  pub feature_handed_on : discovery_number c ≢ 0 → feature_number c id ≡ discovery_number c
  pub feature_missing : discovery_number c ≡ 0 → (feature_number c id ≡ 12) ↔ (Has c id → ⊥)
  pub feature_found : (feature_number c id ≡ 0) ↔ ((discovery_number c ≡ 0) × Has c id)
  pub instance_handed_on : feature_number c id ≢ 0 → instance_number c id n ≡ feature_number c id
  pub instance_missing : feature_number c id ≡ 0 → (instance_number c id n ≡ 12) ↔ ((bank_for c id).instances ≤ n)
  pub instance_ones : AllBytes (bar_of c) → (instance_number c id n ≡ 13) ↔ ((feature_number c id ≡ 0) × (n < (bank_for c id).instances) × Ones c (start_for c id n))
  pub instance_found : AllBytes (bar_of c) → (instance_number c id n ≡ 0) ↔ ((feature_number c id ≡ 0) × (n < (bank_for c id).instances) × (Ones c (start_for c id n) → ⊥))

-- Places: the bank of a feature is that of the one entry with its identifier; where an instance starts; an accepted instance's part is not
-- empty and lies inside the BAR capture that tBIR names, a refused one's is empty.
pub record PlaceFact (c : Capture) (id n : ℕ) : Type 0 where
  pub only : feature_number c id ≡ 0 → (k : ℕ) → k < entries_of c → Filled (bank_in (bar_of c) (table_of c) k) → (bank_in (bar_of c) (table_of c) k).id ≡ id
      → bank_in (bar_of c) (table_of c) k ≡ bank_for c id
  pub part : instance_number c id n ≡ 0 → instance_part c id n ≡ take (size_for c id) (drop (start_for c id n) (bar_of c))
  pub inside : instance_number c id n ≡ 0 → start_for c id n + size_for c id ≤ length (bar_of c)
  pub some : instance_number c id n ≡ 0 → 1 ≤ length (instance_part c id n)
  pub none : instance_number c id n ≢ 0 → instance_part c id n ≡ []

-- Two instances that are not the same share no byte.
abbrev pub ApartFact : Capture → ℕ → ℕ → ℕ → ℕ → Type 0
ApartFact c id n id' n' =
    instance_number c id n ≡ 0 → instance_number c id' n' ≡ 0 → ((id ≡ id') × (n ≡ n') → ⊥)
    → Shared (start_for c id n) (start_for c id n + size_for c id) (start_for c id' n') (start_for c id' n' + size_for c id') → ⊥

-- Entry k, empty or not: discovery's refusal is handed on; 12 exactly if the capture is accepted and its table has no such entry; else
-- exactly the entry's numbers.
pub record EntryFact (c : Capture) (k : ℕ) : Type 0 where
  pub handed_on : discovery_number c ≢ 0 → entry_for c k ≡ refused (discovery_number c)
  pub missing : (entry_for c k ≡ refused 12) ↔ ((discovery_number c ≡ 0) × (entries_of c ≤ k))
  pub there : (vs : List ℕ) → (entry_for c k ≡ gives vs) ↔ ((discovery_number c ≡ 0) × (k < entries_of c) × (values (entry_at (bar_of c) (table_of c + k * 8)) ≡ vs))
