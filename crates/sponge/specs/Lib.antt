-- What the four block operations of BLNK are.
pub mod Blink
pub mod Ways
