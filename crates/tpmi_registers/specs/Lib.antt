pub mod Registers
pub mod Facts
