pub mod BodyLaws
pub mod BodyTrips
pub mod Theorems
