pub mod FieldLaws
pub mod Shifts
pub mod TableLaws
pub mod WordLaws
pub mod Structures
pub mod MaskLaws
pub mod Theorems
pub mod Cases
