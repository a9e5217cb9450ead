pub mod Faithful
pub mod Steps
pub mod Calls
pub mod Traces
pub mod Splits
pub mod Theorems
pub mod Cases
