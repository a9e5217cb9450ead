pub mod NameLaws
pub mod LineFits
pub mod Cases
