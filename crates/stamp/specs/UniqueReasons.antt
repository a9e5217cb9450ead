-- Uniqueness of the public calls of the limit reasons (document 02, request 6), as Unique says it of the others: one record for each crate, one
-- field for each public call; where a page is lent to be written it is over the page, its bytes and its place.
-- Assumes nothing.
use Rattle.reasons_registers.proofs.plr_header.HeaderFromU64.from.Reads as reasons-registers-plr-header-read
use Rattle.reasons_registers.proofs.plr_header.U64TryFromHeader.try_from.Reads as reasons-registers-plr-header-write
use Rattle.reasons_registers.proofs.mailbox_interface.InterfaceFromU64.from.Reads as reasons-registers-mailbox-interface-read
use Rattle.reasons_registers.proofs.mailbox_interface.U64TryFromInterface.try_from.Reads as reasons-registers-mailbox-interface-write
use Rattle.reasons_registers.proofs.mailbox_data.MailboxDataFromU64.from.Reads as reasons-registers-mailbox-data-read
use Rattle.reasons_registers.proofs.mailbox_data.U64TryFromMailboxData.try_from.Reads as reasons-registers-mailbox-data-write
use Rattle.reasons_registers.proofs.die_level.DieLevelFromU64.from.Reads as reasons-registers-die-level-read
use Rattle.reasons_registers.proofs.die_level.U64TryFromDieLevel.try_from.Reads as reasons-registers-die-level-write
use Rattle.reasons_lookups.proofs.by_name.place.Reads as reasons-lookups-place
use Rattle.reasons_lookups.proofs.by_name.content.Reads as reasons-lookups-content
use Rattle.reasons_fold.proofs.fold.fold.Reads as reasons-fold-fold
use Rattle.reasons_fold.proofs.fold.joined.Reads as reasons-fold-joined
use Rattle.reasons_mailbox.proofs.mailbox.start.Reads as reasons-mailbox-start
use Rattle.reasons_mailbox.proofs.mailbox.step.Reads as reasons-mailbox-step
use Rattle.reasons_lines.proofs.reason_lines.reasons_line.Reads as reasons-lines-reasons-line
use Rattle.reasons_lines.proofs.reason_lines.exchange_line.Reads as reasons-lines-exchange-line
use Rattle.reasons_lines.proofs.reason_lines.test_line.Reads as reasons-lines-test-line
use Rattle.stamp.specs.Unique.{Only, Fixes, held_by}

pub record ReasonsRegistersUnique : Type 0 where
  pub plr_header_read : Only reasons-registers-plr-header-read.Post
  pub plr_header_write : Only reasons-registers-plr-header-write.Post
  pub mailbox_interface_read : Only reasons-registers-mailbox-interface-read.Post
  pub mailbox_interface_write : Only reasons-registers-mailbox-interface-write.Post
  pub mailbox_data_read : Only reasons-registers-mailbox-data-read.Post
  pub mailbox_data_write : Only reasons-registers-mailbox-data-write.Post
  pub die_level_read : Only reasons-registers-die-level-read.Post
  pub die_level_write : Only reasons-registers-die-level-write.Post

pub record ReasonsLookupsUnique : Type 0 where
  pub place : Only reasons-lookups-place.Post
  pub content : Only reasons-lookups-content.Post

pub record ReasonsFoldUnique : Type 0 where
  pub fold : Only reasons-fold-fold.Post
  pub joined : Only reasons-fold-joined.Post

pub record ReasonsMailboxUnique : Type 0 where
  pub start : Only reasons-mailbox-start.Post
  pub step : Only reasons-mailbox-step.Post

pub record ReasonsLinesUnique : Type 0 where
  pub reasons_line : Fixes (λ κs x s. held_by s.0.now) reasons-lines-reasons-line.Post
  pub exchange_line : Fixes (λ κs x s. held_by s.0.now) reasons-lines-exchange-line.Post
  pub test_line : Fixes (λ κs x s. held_by s.0.now) reasons-lines-test-line.Post
