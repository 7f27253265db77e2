pub mod Laws
pub mod EvaluatedLaws
