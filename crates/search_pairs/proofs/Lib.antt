pub mod Clashes
pub mod Loops
