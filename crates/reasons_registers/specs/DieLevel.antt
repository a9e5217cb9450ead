-- The die level, register 3 of an instance of feature 0xC (document 004, "PLR_DIE_LEVEL" and the note at its end). Its high half, 0 by 004,
-- is kept as it is.
--   widths         the register's fields from bit 0 up, reserved ones too
--   die_level_of x   the die level that a register's content says
--   values l       its numbers in the order of the table
--   written_of l    what writing it answers: 17, or the content that says it
-- Assumes nothing.
use Rattle.std.specs.Prelude.{ℕ, List, [], ◌∷◌}
use Rattle.words.specs.Answers.{Answer}
use Rattle.fields.specs.Bits.{field}
use Rattle.fields.specs.Tables.{written_word}
use Rattle.reasons_registers.specs.declared.die_level.DieLevel.{DieLevel}

-- DATA: coarse reasons 31:0, and 63:32, which 004 says are 0
abbrev pub widths : List ℕ
widths = 32 ∷ 32 ∷ []

unfoldable pub die_level_of : ℕ → DieLevel
die_level_of x =
    record {
      coarse = field 0 32 x;
      reserved32 = field 32 32 x;
    }

abbrev pub values : DieLevel → List ℕ
values l = l.coarse ∷ l.reserved32 ∷ []

abbrev pub written_of : DieLevel → Answer
written_of l = written_word widths (values l)
