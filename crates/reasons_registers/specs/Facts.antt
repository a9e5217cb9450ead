-- What is proved of the registers of the limit reasons as values, for every number. To be read without its proof, which is in
-- proofs/Theorems.antt under the same name with underscores.
-- Assumes nothing.
use Rattle.fields.specs.Facts.{WordTrips}
use Rattle.reasons_registers.specs.PlrHeader as header
use Rattle.reasons_registers.specs.declared.plr_header.Header.{Header}
use Rattle.reasons_registers.specs.MailboxInterface as interface
use Rattle.reasons_registers.specs.declared.mailbox_interface.Interface.{Interface}
use Rattle.reasons_registers.specs.MailboxData as mailbox
use Rattle.reasons_registers.specs.declared.mailbox_data.MailboxData.{MailboxData}
use Rattle.reasons_registers.specs.DieLevel as level
use Rattle.reasons_registers.specs.declared.die_level.DieLevel.{DieLevel}

-- Writing a value (`written_of`): 17 exactly if a number does not fit; a content is given exactly if it has 64 bits and says this value; one
-- of the two always comes. So a register read and written back is the same 64 bits, reserved ones too, and a value written and read back is
-- the same.
abbrev pub HeaderTrips : Header → Type 0
HeaderTrips v = WordTrips header.widths header.values header.header_of v

abbrev pub InterfaceTrips : Interface → Type 0
InterfaceTrips v = WordTrips interface.widths interface.values interface.interface_of v

abbrev pub MailboxDataTrips : MailboxData → Type 0
MailboxDataTrips v = WordTrips mailbox.widths mailbox.values mailbox.mailbox_data_of v

abbrev pub DieLevelTrips : DieLevel → Type 0
DieLevelTrips v = WordTrips level.widths level.values level.die_level_of v
