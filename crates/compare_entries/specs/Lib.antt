pub mod Growing
pub mod GrowingLaws
pub mod Parting
pub mod PartingLaws
