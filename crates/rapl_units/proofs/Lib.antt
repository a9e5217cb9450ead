pub mod UnitLaws
pub mod Theorems
pub mod Cases
