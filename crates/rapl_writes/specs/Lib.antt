pub mod Next
pub mod Write
pub mod Facts
