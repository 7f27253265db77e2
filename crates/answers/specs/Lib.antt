pub mod Row
pub mod RowLaws
pub mod Pair
pub mod PairLaws
pub mod OutcomeLaws
pub mod Examples
