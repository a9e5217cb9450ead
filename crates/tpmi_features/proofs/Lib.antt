pub mod InstanceLaws
pub mod InsideLaws
pub mod LookupFact
pub mod Apart
pub mod EntryFact
pub mod Changed
pub mod OrLaws
