pub mod Hall
pub mod Facts
