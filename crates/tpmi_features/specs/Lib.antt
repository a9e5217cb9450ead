pub mod Instances
pub mod Entries
pub mod Facts
