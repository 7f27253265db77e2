pub mod Paths
pub mod Tables
pub mod Laws
