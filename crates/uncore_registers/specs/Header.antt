-- Register 0 of an instance of feature 2 (document 002, "UFS_HEADER"). Reserved bits are kept.
--   widths        the register's fields from bit 0 up, reserved ones too
--   header_of x    the header that a register's content says
--   values h      its numbers in the order of the table
--   written_of h   what writing it answers: 17, or the content that says it
-- Assumes nothing.
use Rattle.std.specs.Prelude.{ℕ, List, [], ◌∷◌}
use Rattle.words.specs.Answers.{Answer}
use Rattle.fields.specs.Bits.{field}
use Rattle.fields.specs.Tables.{written_word}
use Rattle.uncore_registers.specs.declared.header.Header.{Header}

-- INTERFACE_VERSION, LOCAL_FABRIC_CLUSTER_ID_MASK, FLAGS, AUTONOMOUS_UFS_DISABLED, FUSION, RATIO_UNIT, reserved 63:36
abbrev pub widths : List ℕ
widths = 8 ∷ 8 ∷ 16 ∷ 1 ∷ 1 ∷ 2 ∷ 28 ∷ []

unfoldable pub header_of : ℕ → Header
header_of x =
    record {
      version = field 0 8 x;
      mask = field 8 8 x;
      flags = field 16 16 x;
      disabled = field 32 1 x;
      fusion = field 33 1 x;
      unit = field 34 2 x;
      reserved36 = field 36 28 x;
    }

abbrev pub values : Header → List ℕ
values h = h.version ∷ h.mask ∷ h.flags ∷ h.disabled ∷ h.fusion ∷ h.unit ∷ h.reserved36 ∷ []

abbrev pub written_of : Header → Answer
written_of h = written_word widths (values h)
