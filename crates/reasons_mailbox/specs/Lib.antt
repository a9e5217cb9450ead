pub mod Mailbox
pub mod Exchanges
pub mod Facts
