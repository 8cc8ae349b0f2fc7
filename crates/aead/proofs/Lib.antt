-- What is true of sealing and opening.
pub mod Lengths
pub mod Runs
pub mod Answers
pub mod Calls
pub mod Demand2
pub mod Unique
