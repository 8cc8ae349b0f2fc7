-- What private contracts cite.
pub mod Rounds
