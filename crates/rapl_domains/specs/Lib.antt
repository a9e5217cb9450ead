pub mod Domains
pub mod Told
pub mod Facts
