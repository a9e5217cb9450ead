pub mod HallLaws
pub mod Runs
pub mod Theorems
