pub mod StructureLaws
pub mod Theorems
pub mod Cases
