pub mod Partial
pub mod Machine
pub mod Facts
