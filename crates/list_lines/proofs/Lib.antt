pub mod LineLaws
pub mod Told
pub mod LineFact
