pub mod Fabric
pub mod Facts
