-- The write of one field of limit 1 or 2 (document 01, "RAPL domains"): the register's next content, stored where the register stands.
--   write_number c i ..    what the write answers: the next content's refusal, 0 where it is permitted
--   limit_place c i ..     where the limit's register stands in the BAR capture that tBIR names
--   left c i ..           the capture that the write leaves: the content stored there; as it was where the write is refused
--   bar_left c i ..        of it the BAR capture that tBIR names
-- Assumes nothing.
use Rattle.std.specs.Prelude.{ℕ, ◌+◌, cond, List, eqb}
use Rattle.words.specs.Answers.{number_in}
use Rattle.capture.specs.Capture.{Capture}
use Rattle.tpmi_discovery.specs.Table.{bar_of}
use Rattle.tpmi_features.specs.Instances.{instance_part}
use Rattle.tpmi_store.specs.Store.{stored_at, after_store}
use Rattle.rapl_registers.specs.Contents.{register_place}
use Rattle.rapl_writes.specs.Next.{next_content, next_for}

unfoldable pub write_number : Capture → ℕ → ℕ → ℕ → ℕ → ℕ → ℕ
write_number c i n limit which value = number_in (next_for c i n limit which value)

abbrev pub limit_place : Capture → ℕ → ℕ → ℕ → ℕ
limit_place c i n limit = stored_at c 0 i (register_place n (limit + 1))

unfoldable pub left : Capture → ℕ → ℕ → ℕ → ℕ → ℕ → Capture
left c i n limit which value =
    cond (eqb (write_number c i n limit which value) 0)
    (after_store c 0 i (register_place n (limit + 1)) (next_content (instance_part c 0 i) n limit which value))
    c

abbrev pub bar_left : Capture → ℕ → ℕ → ℕ → ℕ → ℕ → List ℕ
bar_left c i n limit which value = bar_of (left c i n limit which value)
