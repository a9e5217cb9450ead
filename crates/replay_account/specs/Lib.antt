pub mod Replay
pub mod Facts
pub mod Cases
