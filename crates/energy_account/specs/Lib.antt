pub mod Account
pub mod Facts
pub mod Night
pub mod Dummies
pub mod Restart
