pub mod Contents
pub mod Facts
