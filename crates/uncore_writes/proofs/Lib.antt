pub mod ControlNextLaws
pub mod ControlWriteLaws
pub mod ControlNextFact
pub mod ControlWriteFact
pub mod ControlReadBack
pub mod Cases
