-- What crosses to C: a folder for each room.
pub mod Unique
