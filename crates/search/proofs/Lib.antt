pub mod Ranges
pub mod Links
pub mod Firsts
pub mod Answers
