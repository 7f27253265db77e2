pub mod Pieces
pub mod Entries
pub mod Questions
pub mod Ways
pub mod Operations
