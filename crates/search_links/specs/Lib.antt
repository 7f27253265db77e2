pub mod Hops
pub mod Sets
pub mod Sides
pub mod Laws
pub mod BookHopLaws
