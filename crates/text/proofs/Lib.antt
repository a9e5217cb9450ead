pub mod PageLaws
pub mod NumeralLaws
pub mod NumeralFact
pub mod LinesLaws
pub mod Spelled
pub mod Cases
