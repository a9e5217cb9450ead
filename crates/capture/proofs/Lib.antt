pub mod Told
pub mod PartLaws
