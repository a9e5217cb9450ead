-- What is proved of one entry, for every list of bytes. Each is to be read without its proof; proofs/Theorems.antt
-- has a proof of each, under the same name with underscores.
-- Assumes nothing.
use Rattle.std.specs.Prelude.{ℕ, ◌≤◌, ◌<◌, ◌≡◌, ◌↔◌, List, length}
use Rattle.words.specs.Answers.{refused, gives}
use Rattle.fields.specs.Facts.{ValueTrips}
use Rattle.fields.specs.Tables.{Fit}
use Rattle.tpmi_entries.specs.Entry.{widths, values, entry_at, read_of, write_number, written}
use Rattle.tpmi_entries.specs.declared.entry.Entry.{Entry}

-- Reading an entry that is handed alone: 25 exactly if the part is shorter than 8 bytes, no other refusal, and else its numbers.
pub record EntryReads (s : List ℕ) : Type 0 where
  pub refuses : (m : ℕ) → (read_of s ≡ refused m) ↔ ((m ≡ 25) × (length s < 8))
  pub right : (vs : List ℕ) → (read_of s ≡ gives vs) ↔ ((8 ≤ length s) × (values (entry_at s 0) ≡ vs))

-- Writing, each number exactly on its condition and none tested before it.
pub record EntryAnswers (s : List ℕ) (e : Entry) : Type 0 where
  pub short : (write_number s e ≡ 25) ↔ (length s < 8)
  pub wide : (write_number s e ≡ 17) ↔ ((8 ≤ length s) × (Fit widths (values e) → ⊥))
  pub right : (write_number s e ≡ 0) ↔ ((8 ≤ length s) × Fit widths (values e))

-- The entry at the start of a part, and its round trips; whatever was read can be written where there is room.
abbrev pub entry_in : List ℕ → Entry
entry_in s = entry_at s 0

pub record EntryTrips (s : List ℕ) : Type 0 where
  pub accepted : (z : List ℕ) → 8 ≤ length z → write_number z (entry_in s) ≡ 0
  pub trips : ValueTrips 8 entry_in write_number written s
