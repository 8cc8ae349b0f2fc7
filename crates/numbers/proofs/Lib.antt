-- What is true of a refusal and its number.
pub mod RefusalLaws
pub mod Unique
