pub mod Spoken
pub mod Facts
