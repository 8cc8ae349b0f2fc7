-- Laws of the columns and of the whole state; each public call promises one state.
pub mod Bits
pub mod Columns
pub mod States
pub mod Unique
