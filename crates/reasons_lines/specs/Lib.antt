pub mod ReasonLines
pub mod Facts
