pub mod ControlNext
pub mod ControlWrite
pub mod Facts
