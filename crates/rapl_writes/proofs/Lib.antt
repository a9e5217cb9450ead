pub mod NextLaws
pub mod WriteLaws
pub mod NextFact
pub mod WriteFact
pub mod ReadBack
pub mod Cases
