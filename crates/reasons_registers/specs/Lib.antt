pub mod PlrHeader
pub mod MailboxInterface
pub mod MailboxData
pub mod DieLevel
pub mod Facts
