-- Worked examples, good and refused ones side by side; each is computed. Assumes nothing.
use mathlib.Core.Path.{◌≡◌, refl}
use mathlib.Core.List.{[], ◌∷◌}
use Rattle.words.specs.Answers.{refused, gives, first}
use Rattle.fields.specs.Bits.{field, with_field}
use Rattle.fields.specs.Tables.{with_fields, wider, misfit, written_word}
use Rattle.reasons_registers.specs.PlrHeader as header
use Rattle.reasons_registers.specs.PlrHeader.{header_of}
use Rattle.reasons_registers.specs.MailboxInterface as interface
use Rattle.reasons_registers.specs.MailboxInterface.{interface_of}
use Rattle.reasons_registers.specs.MailboxData as mailbox
use Rattle.reasons_registers.specs.MailboxData.{mailbox_data_of}
use Rattle.reasons_registers.specs.DieLevel as level
use Rattle.reasons_registers.specs.DieLevel.{die_level_of}

-- every field of its own width
ones_read : header.values (header_of 0xFFFFFFFFFFFFFFFF) ∷ interface.values (interface_of 0xFFFFFFFFFFFFFFFF) ∷ []
    ≡ (0xFF ∷ 0xFFFFFFFFFFFFFF ∷ []) ∷ (0xFF ∷ 0xF ∷ 0xFF ∷ 0x7FFFFFFFFFF ∷ 1 ∷ []) ∷ []
unfolding header_of interface_of field
ones_read = refl

-- a busy mailbox that writes to module 35 of the uncore, with a reserved bit of 1; read, and written back
interface_read : interface.values (interface_of 0x8000000000123101) ≡ 1 ∷ 1 ∷ 0x23 ∷ 1 ∷ 1 ∷ []
unfolding interface_of field
interface_read = refl

interface_back : interface.written_of (interface_of 0x8000000000123101) ≡ gives (0x8000000000123101 ∷ [])
unfolding written_word first misfit wider with_fields with_field interface_of field
interface_back = refl

-- FREQUENCY with CDYN0, and THERMAL with PER_CORE_THERMAL; a die that is held by both, and a high half that is not 0
data_read : mailbox.values (mailbox_data_of 0x0080000100000009) ∷ level.values (die_level_of 0x9) ∷ level.values (die_level_of 0x100000009) ∷ []
    ≡ (9 ∷ 0x800001 ∷ []) ∷ (9 ∷ 0 ∷ []) ∷ (9 ∷ 1 ∷ []) ∷ []
unfolding mailbox_data_of die_level_of field
data_read = refl

-- a domain above 15 does not fit, 15 does
domain_wide : interface.written_of (record { command = 0; domain = 16; id = 0; reserved20 = 0; busy = 1 }) ≡ refused 17
unfolding written_word first misfit wider
domain_wide = refl

domain_fits : interface.written_of (record { command = 0; domain = 15; id = 255; reserved20 = 0; busy = 1 }) ≡ gives (0x80000000000FFF00 ∷ [])
unfolding written_word first misfit wider with_fields with_field
domain_fits = refl
