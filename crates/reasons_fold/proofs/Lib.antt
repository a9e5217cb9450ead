pub mod Table
pub mod Entries
pub mod BitRule
pub mod Cases
