-- The control of a cluster, register 3 (document 002, "CONTROL"). Reserved bits are kept.
--   widths        the register's fields from bit 0 up, reserved ones too
--   control_of x   the control that a register's content says
--   values k      its numbers in the order of the table
--   written_of k   what writing it answers: 17, or the content that says it
-- Assumes nothing.
use Rattle.std.specs.Prelude.{ℕ, List, [], ◌∷◌}
use Rattle.words.specs.Answers.{Answer}
use Rattle.fields.specs.Bits.{field}
use Rattle.fields.specs.Tables.{written_word}
use Rattle.uncore_controls.specs.declared.control.Control.{Control}

-- UFS_THROTTLE_MODE, reserved 7:2, MAX_RATIO, MIN_RATIO, EFFICIENCY_LATENCY_CTRL_RATIO, reserved 31:29, EFFICIENCY_LATENCY_CTRL_THRESHOLD,
-- reserved 63:39
abbrev pub widths : List ℕ
widths = 2 ∷ 6 ∷ 7 ∷ 7 ∷ 7 ∷ 3 ∷ 7 ∷ 25 ∷ []

unfoldable pub control_of : ℕ → Control
control_of x =
    record {
      mode = field 0 2 x;
      reserved2 = field 2 6 x;
      maximum = field 8 7 x;
      minimum = field 15 7 x;
      floor = field 22 7 x;
      reserved29 = field 29 3 x;
      threshold = field 32 7 x;
      reserved39 = field 39 25 x;
    }

abbrev pub values : Control → List ℕ
values k = k.mode ∷ k.reserved2 ∷ k.maximum ∷ k.minimum ∷ k.floor ∷ k.reserved29 ∷ k.threshold ∷ k.reserved39 ∷ []

abbrev pub written_of : Control → Answer
written_of k = written_word widths (values k)
