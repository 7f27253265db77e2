pub mod Depths
pub mod Laws
