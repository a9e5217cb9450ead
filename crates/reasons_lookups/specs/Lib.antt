pub mod ByName
pub mod Facts
