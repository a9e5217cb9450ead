pub mod Output
pub mod Facts
