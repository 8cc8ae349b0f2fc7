-- Laws of half bytes as bits, and of one half byte; each public call promises one result.
pub mod Bits
pub mod Halves
pub mod Words
pub mod Unique
