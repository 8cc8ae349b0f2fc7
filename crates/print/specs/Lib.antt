-- What a decimal number in an argument may be.
pub mod Parsing
