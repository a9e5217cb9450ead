pub mod TraceLaws
pub mod WriteLaws
pub mod SaidNumbers
pub mod TraceTrips
pub mod Theorems
