-- The mailbox's data, register 2 of an instance of feature 0xC (document 004, "PLR_MAILBOX_DATA" and the note at its end): two halves.
--   widths            the register's fields from bit 0 up
--   mailbox_data_of x   the data that a register's content says
--   values d          its numbers in the order of the table
--   written_of d       what writing it answers: 17, or the content that says it
-- Assumes nothing.
use Rattle.std.specs.Prelude.{ℕ, List, [], ◌∷◌}
use Rattle.words.specs.Answers.{Answer}
use Rattle.fields.specs.Bits.{field}
use Rattle.fields.specs.Tables.{written_word}
use Rattle.reasons_registers.specs.declared.mailbox_data.MailboxData.{MailboxData}

-- DATA in two halves: coarse reasons 31:0, fine reasons 63:32
abbrev pub widths : List ℕ
widths = 32 ∷ 32 ∷ []

unfoldable pub mailbox_data_of : ℕ → MailboxData
mailbox_data_of x =
    record {
      coarse = field 0 32 x;
      fine = field 32 32 x;
    }

abbrev pub values : MailboxData → List ℕ
values d = d.coarse ∷ d.fine ∷ []

abbrev pub written_of : MailboxData → Answer
written_of d = written_word widths (values d)
