pub mod PartialLaws
pub mod Cuts
pub mod Pieces
pub mod Theorems
