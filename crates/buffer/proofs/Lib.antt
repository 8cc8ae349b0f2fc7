-- What is true of what is done with lent buffers.
pub mod Unique
