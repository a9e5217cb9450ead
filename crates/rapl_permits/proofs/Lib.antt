pub mod PermitLaws
pub mod PermitFact
