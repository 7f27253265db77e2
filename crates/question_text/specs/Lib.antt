pub mod Answer
pub mod Writing
pub mod Laws
pub mod Examples
pub mod OutcomeLaws
