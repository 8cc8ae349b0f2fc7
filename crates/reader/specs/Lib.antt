-- What reading a cartridge is.
pub mod Walk
pub mod Reading
pub mod Steps
