pub mod Opened
pub mod ReadingLaws
