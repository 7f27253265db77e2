pub mod Idle
pub mod Twins
