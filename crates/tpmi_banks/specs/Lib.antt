pub mod Faults
pub mod Facts
