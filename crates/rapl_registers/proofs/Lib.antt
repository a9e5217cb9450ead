pub mod ContentLaws
pub mod ContentFact
pub mod Cases
