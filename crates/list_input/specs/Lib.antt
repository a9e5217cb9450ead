pub mod Layout
pub mod Facts
pub mod Told
