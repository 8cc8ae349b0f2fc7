-- What the picture of a cartridge is.
pub mod Picture
pub mod Steps
