-- Register 0 of an instance of feature 0xC (document 004, "PLR_HEADER"). Reserved bits are kept.
--   widths        the register's fields from bit 0 up, reserved ones too
--   header_of x    the header that a register's content says
--   values h      its numbers in the order of the table
--   written_of h   what writing it answers: 17, or the content that says it
-- Assumes nothing.
use Rattle.std.specs.Prelude.{ℕ, List, [], ◌∷◌}
use Rattle.words.specs.Answers.{Answer}
use Rattle.fields.specs.Bits.{field}
use Rattle.fields.specs.Tables.{written_word}
use Rattle.reasons_registers.specs.declared.plr_header.Header.{Header}

-- INTERFACE_VERSION, reserved 63:8
abbrev pub widths : List ℕ
widths = 8 ∷ 56 ∷ []

unfoldable pub header_of : ℕ → Header
header_of x =
    record {
      version = field 0 8 x;
      reserved8 = field 8 56 x;
    }

abbrev pub values : Header → List ℕ
values h = h.version ∷ h.reserved8 ∷ []

abbrev pub written_of : Header → Answer
written_of h = written_word widths (values h)
