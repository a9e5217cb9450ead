-- What is proved of the lines of a listing, for every capture. To be read without its proof, which is in proofs/LineFact.antt.
-- Assumes nothing.
use Rattle.std.specs.Prelude.{ℕ, ◌+◌, ◌*◌, ◌<◌, ◌≡◌, ◌⊎◌, ◌≢◌, List, [], ◌∷◌}
use Rattle.words.specs.Answers.{gives}
use Rattle.tpmi_entries.specs.declared.entry.Entry.{Entry}
use Rattle.capture.specs.Capture.{Capture}
use Rattle.tpmi_discovery.specs.Table.{bir_of, bar_of, table_of, entries_of}
use Rattle.tpmi_discovery.specs.Discovery.{discovery_number}
use Rattle.tpmi_features.specs.Entries.{entry_there}
use Rattle.tpmi_features.specs.Instances.{feature_of}
use Rattle.tpmi_counts.specs.Valid.{valid_count_of}
use Rattle.list_lines.specs.Line.{line_of}

-- The line of the entry e says five numbers: the entry's identifier and instances, how many of these are valid, the bytes of one, and where
-- the bank starts. The lookup of the feature with that identifier gives the same bank, and its valid count the same number.
pub record LineSays (c : Capture) (e : Entry) (line : List ℕ) : Type 0 where
  pub valid : ℕ
  pub numbers : line ≡ e.id ∷ e.instances ∷ valid ∷ e.words * 4 ∷ (table_of c + e.offset * 1024) ∷ []
  pub bank : feature_of c e.id ≡ gives (bir_of c ∷ (table_of c + e.offset * 1024) ∷ e.words * 4 ∷ e.instances ∷ [])
  pub count : valid_count_of c e.id ≡ gives (valid ∷ [])

-- An entry that is empty has no line; every other entry of an accepted capture's table has one, which says what the lookups say.
pub record LineFact (c : Capture) (k : ℕ) : Type 0 where
  pub none : ((entry_there c k).instances ≡ 0) ⊎ ((entry_there c k).words ≡ 0) → line_of (bar_of c) (table_of c) k ≡ []
  pub some : discovery_number c ≡ 0 → k < entries_of c → (entry_there c k).instances ≢ 0 → (entry_there c k).words ≢ 0
      → LineSays c (entry_there c k) (line_of (bar_of c) (table_of c) k)
