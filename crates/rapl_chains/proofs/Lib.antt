pub mod ChainLaws
pub mod ShortChains
pub mod ChainFact
pub mod Cases
