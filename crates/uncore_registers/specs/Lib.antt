pub mod Header
pub mod Offsets
pub mod Status
pub mod Facts
