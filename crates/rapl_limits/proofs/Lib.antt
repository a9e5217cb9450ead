pub mod LimitLaws
pub mod Theorems
pub mod Cases
