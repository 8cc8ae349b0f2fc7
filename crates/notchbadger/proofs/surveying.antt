-- Spacing and the report cross as one answer.
pub mod Unique
