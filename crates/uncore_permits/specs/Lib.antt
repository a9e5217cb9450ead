pub mod ControlFields
pub mod Facts
