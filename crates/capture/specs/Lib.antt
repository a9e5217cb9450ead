pub mod Told
pub mod Capture
pub mod Places
