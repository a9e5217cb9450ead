pub mod StoreLaws
pub mod StoreLeaves
pub mod AsBefore
pub mod FieldStores
pub mod Stores
