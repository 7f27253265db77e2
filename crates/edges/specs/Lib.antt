pub mod Edges
pub mod Groups
pub mod GroupLaws
pub mod LinkTables
pub mod BookEdges
pub mod Differing
pub mod Laws
pub mod BookLaws
