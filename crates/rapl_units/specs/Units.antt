-- The units of a domain, register 1 (document 01, "RAPL domains"; document 001, "Power Unit (idx 1)"). Each unit is one over 2 to its
-- number: the power unit in W, the energy unit in J, the time unit in s. Reserved bits are kept.
--   widths        the register's fields from bit 0 up, the reserved ones too
--   units_of x     the units that a register's content says
--   values u      their numbers in the order of the table
--   written_of u   what writing them answers: 17, or the content that says them
-- Assumes nothing.
use Rattle.std.specs.Prelude.{ℕ, List, [], ◌∷◌}
use Rattle.words.specs.Answers.{Answer}
use Rattle.fields.specs.Bits.{field}
use Rattle.fields.specs.Tables.{written_word}
use Rattle.rapl_units.specs.declared.units.Units.{Units}

-- PWR_UNIT, reserved 5:4, ENERGY_UNIT, reserved 11, TIME_UNIT, reserved 63:16
abbrev pub widths : List ℕ
widths = 4 ∷ 2 ∷ 5 ∷ 1 ∷ 4 ∷ 48 ∷ []

unfoldable pub units_of : ℕ → Units
units_of x =
    record {
      power = field 0 4 x;
      reserved4 = field 4 2 x;
      energy = field 6 5 x;
      reserved11 = field 11 1 x;
      time = field 12 4 x;
      reserved16 = field 16 48 x;
    }

abbrev pub values : Units → List ℕ
values u = u.power ∷ u.reserved4 ∷ u.energy ∷ u.reserved11 ∷ u.time ∷ u.reserved16 ∷ []

abbrev pub written_of : Units → Answer
written_of u = written_word widths (values u)
