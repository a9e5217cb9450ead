pub mod Page
pub mod Numerals
pub mod Words
pub mod Facts
