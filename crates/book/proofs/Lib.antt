pub mod Laws
pub mod HeardLaws
