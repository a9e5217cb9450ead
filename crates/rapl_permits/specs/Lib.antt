pub mod Permits
pub mod Facts
