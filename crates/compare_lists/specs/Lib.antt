pub mod BookSetting
pub mod Comparing
pub mod Laws
