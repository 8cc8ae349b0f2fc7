-- What is true of the block operations.
pub mod Groups
pub mod Lengths
pub mod Steps
pub mod CallLaws
pub mod Trips
pub mod Bytes
pub mod Unique
