pub mod Store
pub mod Facts
