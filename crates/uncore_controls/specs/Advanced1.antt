-- The first advanced control of a cluster, register 4 (document 002, "UFS_ADV_CONTROL_1"). Reserved bits are kept.
--   widths        the register's fields from bit 0 up, reserved ones too
--   advanced1_of x the first advanced control that a register's content says
--   values a      its numbers in the order of the table
--   written_of a   what writing it answers: 17, or the content that says it
-- Assumes nothing.
use Rattle.std.specs.Prelude.{ℕ, List, [], ◌∷◌}
use Rattle.words.specs.Answers.{Answer}
use Rattle.fields.specs.Bits.{field}
use Rattle.fields.specs.Tables.{written_word}
use Rattle.uncore_controls.specs.declared.advanced1.Advanced1.{Advanced1}

-- SLOPE_1, BASE_1, reserved 63:16
abbrev pub widths : List ℕ
widths = 8 ∷ 8 ∷ 48 ∷ []

unfoldable pub advanced1_of : ℕ → Advanced1
advanced1_of x = record { slope = field 0 8 x; base = field 8 8 x; reserved16 = field 16 48 x }

abbrev pub values : Advanced1 → List ℕ
values a = a.slope ∷ a.base ∷ a.reserved16 ∷ []

abbrev pub written_of : Advanced1 → Answer
written_of a = written_word widths (values a)
