-- The write of one field of a cluster's register (document 02, request 2): the register's next content, stored where the register stands.
--   write_number c i ..    what the write answers: the next content's refusal, 0 where it is permitted
--   offset_for c i n r     where the register stands in the instance;   written_place   in the BAR capture that tBIR names
--   left c i ..           the capture that the write leaves: the content stored there; as it was where the write is refused
--   bar_left c i ..        of it the BAR capture that tBIR names
-- Assumes nothing.
use Rattle.std.specs.Prelude.{ℕ, cond, List, eqb}
use Rattle.words.specs.Answers.{number_in}
use Rattle.capture.specs.Capture.{Capture}
use Rattle.tpmi_discovery.specs.Table.{bar_of}
use Rattle.tpmi_features.specs.Instances.{instance_part}
use Rattle.tpmi_store.specs.Store.{stored_at, after_store}
use Rattle.uncore_clusters.specs.Clusters.{place_of}
use Rattle.uncore_writes.specs.ControlNext.{next_content, next_for}

unfoldable pub write_number : Capture → ℕ → ℕ → ℕ → ℕ → ℕ → ℕ → ℕ
write_number c i die n r which value = number_in (next_for c i die n r which value)

abbrev pub offset_for : Capture → ℕ → ℕ → ℕ → ℕ
offset_for c i n r = place_of (instance_part c 2 i) n r

abbrev pub written_place : Capture → ℕ → ℕ → ℕ → ℕ
written_place c i n r = stored_at c 2 i (offset_for c i n r)

unfoldable pub left : Capture → ℕ → ℕ → ℕ → ℕ → ℕ → ℕ → Capture
left c i die n r which value =
    cond (eqb (write_number c i die n r which value) 0)
    (after_store c 2 i (offset_for c i n r) (next_content (instance_part c 2 i) n r which value))
    c

abbrev pub bar_left : Capture → ℕ → ℕ → ℕ → ℕ → ℕ → ℕ → List ℕ
bar_left c i die n r which value = bar_of (left c i die n r which value)
