-- What sealing and opening are.
pub mod Sealing
