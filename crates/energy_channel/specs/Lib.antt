pub mod Channel
pub mod Ways
pub mod Facts
