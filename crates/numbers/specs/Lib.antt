-- The number of a refusal, and what a call answers.
pub mod Refusals
