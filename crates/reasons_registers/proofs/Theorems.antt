-- The theorems of Facts.antt, under their names. Assumes nothing.
use mathlib.Core.Path.{refl}
use native.Mathlib.Omega.{arith}
use Rattle.fields.proofs.Structures.{word_trips}
use Rattle.reasons_registers.specs.Facts.{HeaderTrips, InterfaceTrips, MailboxDataTrips, DieLevelTrips}
use Rattle.reasons_registers.specs.PlrHeader as header
use Rattle.reasons_registers.specs.declared.plr_header.Header.{Header}
use Rattle.reasons_registers.proofs.PlrHeaderLaws as of-header
use Rattle.reasons_registers.specs.MailboxInterface as interface
use Rattle.reasons_registers.specs.declared.mailbox_interface.Interface.{Interface}
use Rattle.reasons_registers.proofs.MailboxInterfaceLaws as of-interface
use Rattle.reasons_registers.specs.MailboxData as mailbox
use Rattle.reasons_registers.specs.declared.mailbox_data.MailboxData.{MailboxData}
use Rattle.reasons_registers.proofs.MailboxDataLaws as of-mailbox
use Rattle.reasons_registers.specs.DieLevel as level
use Rattle.reasons_registers.specs.declared.die_level.DieLevel.{DieLevel}
use Rattle.reasons_registers.proofs.DieLevelLaws as of-level

pub header_trips : (v : Header) → HeaderTrips v
header_trips = word_trips header.widths header.values header.header_of of-header.values_of of-header.values_once (λ v. refl) (omega arith)

pub interface_trips : (v : Interface) → InterfaceTrips v
interface_trips = word_trips interface.widths interface.values interface.interface_of of-interface.values_of of-interface.values_once (λ v. refl) (omega arith)

pub mailbox_data_trips : (v : MailboxData) → MailboxDataTrips v
mailbox_data_trips = word_trips mailbox.widths mailbox.values mailbox.mailbox_data_of of-mailbox.values_of of-mailbox.values_once (λ v. refl) (omega arith)

pub die_level_trips : (v : DieLevel) → DieLevelTrips v
die_level_trips = word_trips level.widths level.values level.die_level_of of-level.values_of of-level.values_once (λ v. refl) (omega arith)
