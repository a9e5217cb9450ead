-- The status of a cluster, register 2 (document 002, "STATUS"). Reserved bits are kept.
--   widths        the register's fields from bit 0 up, reserved ones too
--   status_of x    the status that a register's content says
--   values t      its numbers in the order of the table
--   written_of t   what writing it answers: 17, or the content that says it
-- Assumes nothing.
use Rattle.std.specs.Prelude.{ℕ, List, [], ◌∷◌}
use Rattle.words.specs.Answers.{Answer}
use Rattle.fields.specs.Bits.{field}
use Rattle.fields.specs.Tables.{written_word}
use Rattle.uncore_registers.specs.declared.status.Status.{Status}

-- CURRENT_RATIO, CURRENT_VOLTAGE, AGENT_TYPE_CORE, CACHE, MEMORY, IO, reserved 31:27, THROTTLE_COUNTER
abbrev pub widths : List ℕ
widths = 7 ∷ 16 ∷ 1 ∷ 1 ∷ 1 ∷ 1 ∷ 5 ∷ 32 ∷ []

unfoldable pub status_of : ℕ → Status
status_of x =
    record {
      ratio = field 0 7 x;
      voltage = field 7 16 x;
      core = field 23 1 x;
      cache = field 24 1 x;
      memory = field 25 1 x;
      io = field 26 1 x;
      reserved27 = field 27 5 x;
      throttled = field 32 32 x;
    }

abbrev pub values : Status → List ℕ
values t = t.ratio ∷ t.voltage ∷ t.core ∷ t.cache ∷ t.memory ∷ t.io ∷ t.reserved27 ∷ t.throttled ∷ []

abbrev pub written_of : Status → Answer
written_of t = written_word widths (values t)
