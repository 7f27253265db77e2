pub mod Relation
pub mod Laws
