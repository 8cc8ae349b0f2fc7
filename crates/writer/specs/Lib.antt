-- What writing a cartridge is.
pub mod Items
pub mod Writing
pub mod Steps
