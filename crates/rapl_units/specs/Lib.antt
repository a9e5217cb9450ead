pub mod Units
pub mod Facts
