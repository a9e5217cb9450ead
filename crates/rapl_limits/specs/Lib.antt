pub mod Limit
pub mod Facts
