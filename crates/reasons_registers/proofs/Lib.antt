pub mod PlrHeaderLaws
pub mod MailboxInterfaceLaws
pub mod MailboxDataLaws
pub mod DieLevelLaws
pub mod Theorems
pub mod Cases
