pub mod Body
pub mod Facts
