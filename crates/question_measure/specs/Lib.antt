pub mod Text
pub mod Measures
pub mod Holds
pub mod HoldsLaws
pub mod MeasureLaws
pub mod ChainLaws
pub mod ReadBack
pub mod ReadBackLaws
