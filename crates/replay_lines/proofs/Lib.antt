pub mod SpokenLaws
pub mod OpenFact
pub mod LineFits
