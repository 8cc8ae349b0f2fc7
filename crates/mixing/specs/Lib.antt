-- What a turn of a word is.
pub mod Turns
