pub mod Lookups
pub mod Facts
