pub mod StepLaws
pub mod Told
