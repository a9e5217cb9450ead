pub mod EntryLaws
pub mod Theorems
pub mod Cases
