pub mod Chains
pub mod Facts
