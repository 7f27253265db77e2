pub mod Near
pub mod NearLaws
