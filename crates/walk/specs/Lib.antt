-- What the program promises: the status that it ends with.
pub mod Status
