pub mod Exits
pub mod Filled
