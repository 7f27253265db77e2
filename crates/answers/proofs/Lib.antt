pub mod RowExits
pub mod PairExits
