pub mod Pairs
pub mod Tails
pub mod Laws
pub mod ValueLaws
