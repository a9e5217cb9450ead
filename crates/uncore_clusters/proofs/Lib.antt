pub mod ClusterLaws
pub mod ClustersFact
pub mod PlaceFact
pub mod HangsOnHead
pub mod Cases
