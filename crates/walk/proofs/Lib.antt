-- What is true of the statuses.
pub mod Statuses
