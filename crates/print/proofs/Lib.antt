-- What is true of what the programs share.
pub mod Unique
