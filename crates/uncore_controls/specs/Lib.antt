pub mod Control
pub mod Advanced1
pub mod Advanced2
pub mod Facts
