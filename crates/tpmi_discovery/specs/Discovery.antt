-- Discovery (document 01, "Refusal table", 1 to 11; document 000, "Discovery and Access"): the table located (1 to 7), then the faults of its
-- entries (8 to 11), which are read in the BAR capture that tBIR names.
--   discovery_number c       the two in their order
--   discovery_of c    that refusal, or the table: BAR number, place, number of entries
-- Assumes nothing.
use Rattle.std.specs.Prelude.{ℕ, [], ◌∷◌}
use Rattle.words.specs.Answers.{Answer, gives, unless, earliest}
use Rattle.capture.specs.Capture.{Capture}
use Rattle.tpmi_banks.specs.Faults.{faults_of}
use Rattle.tpmi_discovery.specs.Table.{bir_of, table_of, entries_of, bar_of, location_number}

unfoldable pub discovery_number : Capture → ℕ
discovery_number c = earliest (location_number c ∷ faults_of (bar_of c) (table_of c) (entries_of c) ∷ [])

unfoldable pub discovery_of : Capture → Answer
discovery_of c = unless (discovery_number c) (gives (bir_of c ∷ table_of c ∷ entries_of c ∷ []))
