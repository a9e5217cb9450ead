pub mod Demand3
pub mod Night
pub mod FirstRise
pub mod Dummies
pub mod Restart
