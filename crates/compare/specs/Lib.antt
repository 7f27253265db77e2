pub mod Compare
pub mod Parted
pub mod Laws
pub mod Promises
pub mod OutcomeLaws
pub mod SecrecyLaws
