pub mod Bytes
pub mod Answers
pub mod Below
pub mod Told
pub mod Facts
