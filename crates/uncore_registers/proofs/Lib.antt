pub mod HeaderLaws
pub mod OffsetsLaws
pub mod StatusLaws
pub mod Theorems
pub mod Cases
