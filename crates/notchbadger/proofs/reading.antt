-- How the reader's calls cross.
pub mod Crossing
pub mod Unique
