pub mod FieldsLaws
pub mod WordFact
pub mod Cases
