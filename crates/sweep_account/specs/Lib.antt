pub mod Mix
pub mod Facts
pub mod Cases
