pub mod CountLaws
pub mod CountFact
