mod Bodies
pub mod KindLaws
pub mod Laws
mod Vectors
pub mod PassedLaws
pub mod AcceptedLaws
pub mod ReadingLaws
pub mod KnownLaws
pub mod OutcomeLaws
