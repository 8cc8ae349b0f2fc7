-- What one block of a cartridge is: its content, its 512 bytes, what opens at a place.
pub mod Content
pub mod Format
pub mod Image
pub mod Calls
pub mod Steps
