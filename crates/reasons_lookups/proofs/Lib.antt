pub mod ByNameLaws
pub mod ByNameFact
