pub mod LineFits
pub mod Cases
