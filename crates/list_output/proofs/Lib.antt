pub mod OutputLaws
pub mod ListingFact
