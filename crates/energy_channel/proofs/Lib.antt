pub mod ChannelLaws
pub mod Accepted
pub mod Ways
pub mod Theorems
