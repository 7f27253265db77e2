pub mod Fields
pub mod Laws
pub mod Label
pub mod LabelLaws
pub mod Runs
pub mod RunLaws
