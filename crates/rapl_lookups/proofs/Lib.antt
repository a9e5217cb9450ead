pub mod CaptureFact
