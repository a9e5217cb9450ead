pub mod WalkLaws
pub mod WalkFact
pub mod Told
pub mod Cases
