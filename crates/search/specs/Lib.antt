pub mod Lengths
pub mod Reasons
pub mod BridgeLaws
pub mod BookReasons
pub mod BookReasonLaws
pub mod Laws
