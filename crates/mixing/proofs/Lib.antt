-- What turns and sums of planes are worth in bytes, what a promise allows, and the proof of each function below.
pub mod Bits
pub mod Bytes
pub mod Sums
pub mod States
pub mod Rows
pub mod Unique
