pub mod LayoutLaws
pub mod LayoutFact
pub mod Told
