-- The cluster offsets, register 1 of an instance of feature 2 (document 002, "UFS_FABRIC_CLUSTER_OFFSET", which prints byte 0 alone;
-- document 02, request 2): eight bytes.
--   widths        the register's fields from bit 0 up
--   offsets_of x   the offsets that a register's content says
--   values o      its numbers in the order of the table
--   written_of o   what writing it answers: 17, or the content that says it
-- Assumes nothing.
use Rattle.std.specs.Prelude.{ℕ, List, [], ◌∷◌}
use Rattle.words.specs.Answers.{Answer}
use Rattle.fields.specs.Bits.{field}
use Rattle.fields.specs.Tables.{written_word}
use Rattle.uncore_registers.specs.declared.offsets.Offsets.{Offsets}

-- OFFSET_0, OFFSET_1, OFFSET_2, OFFSET_3, OFFSET_4, OFFSET_5, OFFSET_6, OFFSET_7
abbrev pub widths : List ℕ
widths = 8 ∷ 8 ∷ 8 ∷ 8 ∷ 8 ∷ 8 ∷ 8 ∷ 8 ∷ []

unfoldable pub offsets_of : ℕ → Offsets
offsets_of x =
    record {
      offset0 = field 0 8 x;
      offset1 = field 8 8 x;
      offset2 = field 16 8 x;
      offset3 = field 24 8 x;
      offset4 = field 32 8 x;
      offset5 = field 40 8 x;
      offset6 = field 48 8 x;
      offset7 = field 56 8 x;
    }

abbrev pub values : Offsets → List ℕ
values o = o.offset0 ∷ o.offset1 ∷ o.offset2 ∷ o.offset3 ∷ o.offset4 ∷ o.offset5 ∷ o.offset6 ∷ o.offset7 ∷ []

abbrev pub written_of : Offsets → Answer
written_of o = written_word widths (values o)
