pub mod MailboxLaws
pub mod ExchangeFact
pub mod StepFact
pub mod Told
pub mod Cases
