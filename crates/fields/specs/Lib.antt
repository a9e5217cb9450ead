pub mod Bits
pub mod Tables
pub mod Masks
pub mod Facts
