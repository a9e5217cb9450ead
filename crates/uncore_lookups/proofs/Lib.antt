pub mod FabricLaws
pub mod FabricRoads
