pub mod RegisterLaws
pub mod RegisterPlaceFact
