pub mod Told
pub mod Table
pub mod Discovery
pub mod Facts
