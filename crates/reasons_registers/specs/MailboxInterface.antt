-- The mailbox's interface, register 1 of an instance of feature 0xC (document 004, "PLR_MAILBOX_INTERFACE"). Reserved bits are kept.
--   widths          the register's fields from bit 0 up, reserved ones too
--   interface_of x   the interface that a register's content says
--   values m        its numbers in the order of the table
--   written_of m     what writing it answers: 17, or the content that says it
-- Assumes nothing.
use Rattle.std.specs.Prelude.{ℕ, List, [], ◌∷◌}
use Rattle.words.specs.Answers.{Answer}
use Rattle.fields.specs.Bits.{field}
use Rattle.fields.specs.Tables.{written_word}
use Rattle.reasons_registers.specs.declared.mailbox_interface.Interface.{Interface}

-- COMMAND, DOMAIN, ID, reserved 62:20, RUN_BUSY
abbrev pub widths : List ℕ
widths = 8 ∷ 4 ∷ 8 ∷ 43 ∷ 1 ∷ []

unfoldable pub interface_of : ℕ → Interface
interface_of x =
    record {
      command = field 0 8 x;
      domain = field 8 4 x;
      id = field 12 8 x;
      reserved20 = field 20 43 x;
      busy = field 63 1 x;
    }

abbrev pub values : Interface → List ℕ
values m = m.command ∷ m.domain ∷ m.id ∷ m.reserved20 ∷ m.busy ∷ []

abbrev pub written_of : Interface → Answer
written_of m = written_word widths (values m)
