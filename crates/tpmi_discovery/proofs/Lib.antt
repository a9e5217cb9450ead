pub mod Told
pub mod TableLaws
pub mod DiscoveryLaws
pub mod LocationFact
pub mod DiscoveryFact
