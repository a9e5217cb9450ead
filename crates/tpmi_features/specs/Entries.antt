-- Entry k of a capture's table (document 01, "PFS and register places"), empty or not.
--   entry_there c k    the entry at its place, whatever the capture
--   entry_number c k   discovery's, then 12 where the table has no such entry
--   entry_for c k      that refusal, or the entry's numbers
-- Assumes nothing.
use Rattle.std.specs.Prelude.{ℕ, ◌+◌, ◌*◌, [], ◌∷◌, leb}
use Rattle.words.specs.Answers.{Answer, gives, unless, first, earliest}
use Rattle.capture.specs.Capture.{Capture}
use Rattle.tpmi_entries.specs.Entry.{entry_at, values}
use Rattle.tpmi_entries.specs.declared.entry.Entry.{Entry}
use Rattle.tpmi_discovery.specs.Table.{bar_of, table_of, entries_of}
use Rattle.tpmi_discovery.specs.Discovery.{discovery_number}

abbrev pub entry_there : Capture → ℕ → Entry
entry_there c k = entry_at (bar_of c) (table_of c + k * 8)

unfoldable pub entry_number : Capture → ℕ → ℕ
entry_number c k = earliest (discovery_number c ∷ first ((leb (entries_of c) k, 12) ∷ []) ∷ [])

unfoldable pub entry_for : Capture → ℕ → Answer
entry_for c k = unless (entry_number c k) (gives (values (entry_there c k)))
