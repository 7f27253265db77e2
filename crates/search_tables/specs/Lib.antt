pub mod Tips
pub mod Laws
