pub mod Gathering
pub mod Deepening
pub mod Deciding
