pub mod DomainLaws
pub mod SameHeaders
pub mod DomainFact
pub mod Told
pub mod Cases
