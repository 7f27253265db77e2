pub mod Truth
pub mod SeenCells
pub mod OutcomeLaws
pub mod SecrecyLaws
