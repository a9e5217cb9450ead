pub mod ControlLaws
pub mod Advanced1Laws
pub mod Advanced2Laws
pub mod Theorems
pub mod Cases
