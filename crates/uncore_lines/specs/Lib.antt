pub mod ClockLines
pub mod Facts
