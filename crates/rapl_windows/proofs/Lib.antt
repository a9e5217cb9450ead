pub mod CodeLaws
pub mod Order
pub mod Theorems
pub mod Cases
