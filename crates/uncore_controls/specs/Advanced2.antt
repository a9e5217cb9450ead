-- The second advanced control of a cluster, register 5 (document 002, "UFS_ADV_CONTROL_2"). Reserved bits are kept.
--   widths        the register's fields from bit 0 up, reserved ones too
--   advanced2_of x the second advanced control that a register's content says
--   values a      its numbers in the order of the table
--   written_of a   what writing it answers: 17, or the content that says it
-- Assumes nothing.
use Rattle.std.specs.Prelude.{ℕ, List, [], ◌∷◌}
use Rattle.words.specs.Answers.{Answer}
use Rattle.fields.specs.Bits.{field}
use Rattle.fields.specs.Tables.{written_word}
use Rattle.uncore_controls.specs.declared.advanced2.Advanced2.{Advanced2}

-- SLOPE_2, BASE_2, UTILIZATION_THRESHOLD, HBM_BW_THRESHOLD, reserved 63:32
abbrev pub widths : List ℕ
widths = 8 ∷ 8 ∷ 8 ∷ 8 ∷ 32 ∷ []

unfoldable pub advanced2_of : ℕ → Advanced2
advanced2_of x = record { slope = field 0 8 x; base = field 8 8 x; utilization = field 16 8 x; bandwidth = field 24 8 x; reserved32 = field 32 32 x }

abbrev pub values : Advanced2 → List ℕ
values a = a.slope ∷ a.base ∷ a.utilization ∷ a.bandwidth ∷ a.reserved32 ∷ []

abbrev pub written_of : Advanced2 → Answer
written_of a = written_word widths (values a)
