pub mod PlaceLaws
pub mod EntryLaws
pub mod StepLaws
pub mod WritingLaws
pub mod RoundLaws
pub mod DefinedLaws
pub mod Theorems
pub mod Examples
