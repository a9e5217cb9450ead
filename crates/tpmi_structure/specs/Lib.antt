pub mod Structure
pub mod Told
pub mod Facts
