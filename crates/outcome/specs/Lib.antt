pub mod Outcome
pub mod OutcomeLaws
pub mod Refusals
pub mod Refused
pub mod RefusalLaws
