pub mod FaultLaws
pub mod FaultFact
pub mod SameTable
pub mod Cases
