pub mod Places
pub mod Setting
pub mod Room
pub mod Comparison
pub mod Entries
pub mod Refining
