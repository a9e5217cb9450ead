pub mod Walk
pub mod Facts
pub mod Told
pub mod Step
